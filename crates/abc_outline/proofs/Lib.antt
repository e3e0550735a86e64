-- Lemmas on outlines and names.
mod Places
mod ReadRows
mod Cuts
mod Gathered
mod Told
mod Owned
mod NameKinds
mod Worked
mod Unled
mod SeenTokens
mod Edging
