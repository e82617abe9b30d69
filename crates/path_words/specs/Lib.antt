pub mod CappedNumbers
pub mod Part
pub use Rattle.path_grammar.specs.Reading
