-- Lemmas of the parser.
mod spelling
mod computing
mod each_thing
mod units
mod names
mod regular
