mod Putting
mod Lining
mod LastLine
