-- Lemmas on demands.
pub mod Alike
mod Asking
mod Leading
mod Letters
mod Ranged
mod Ruling
mod Seeing
mod Signed
mod Turning
mod Walking
mod Noded
mod Calling
pub mod Suites
mod BodyLemmas
mod Later
mod NameLemmas
mod Topping
mod Finding
mod Flagging
