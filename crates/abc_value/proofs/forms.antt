-- Forms: which types they have, joins, and the forms of values.
pub mod Grounds
pub mod TypesOfValues
pub mod Joins
pub mod SameForms
pub mod ProperForms
pub mod Shaping
pub mod OneForm
pub mod CommonForms
pub mod ShapeSteps
pub mod ShapeLooks
