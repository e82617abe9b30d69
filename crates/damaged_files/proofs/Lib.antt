mod Listed
mod PartTexts
mod Framed
