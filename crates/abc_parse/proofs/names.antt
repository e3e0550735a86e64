-- The names in what a line says: those that its tokens tell, their places and their roles.
pub mod PartsCut
pub mod TestNames
pub mod NamesTold
pub mod AddressFit
pub mod NamesFit
pub mod RolesApart
pub mod SingleRoles
