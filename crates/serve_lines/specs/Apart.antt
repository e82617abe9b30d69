-- The definitions that may stay shut for one who reads what the store itself promises. They are apart from the store's own definitions: what public standards say, with all on which that rests, and, last, which image of a device holds which state.
-- JSON (RFC 8259): documents, their text, and what a text is read as
pub use Rattle.doc_tree.specs.Doc.{Doc, height}
pub use Rattle.doc_tree.specs.Text.{text_of}
pub use Rattle.doc_tree.specs.Read.{read_of}
pub use Rattle.doc_tree.specs.TreeView.{elements_of, view}
pub use Rattle.doc_tree.specs.Sound.{IsSound}
-- JSON Pointer (RFC 6901)
pub use Rattle.doc_pointer.specs.Text.{pointer_text}
pub use Rattle.doc_pointer.specs.Place.{resolve}
pub use Rattle.doc_pointer.specs.Fault.{IsNoPointer}
-- JSON Patch (RFC 6902)
pub use Rattle.doc_patch.specs.Reading.{operations_of}
pub use Rattle.doc_patch.specs.Patch.{patch}
pub use Rattle.doc_patch.specs.Held.{held}
-- JSON Schema, draft 2020-12
pub use Rattle.doc_schema.specs.Faults.{IsFaultless, MayHaveLargePatterns, first_fault}
pub use Rattle.doc_schema.specs.Judge.{Judges, enough, judge}
pub use Rattle.doc_schema.specs.Steps.{settled}
-- JSONPath (RFC 9535)
pub use Rattle.path_grammar.specs.Answers.{SpellsLeftOut, SpellsNone, SpellsOnly}
pub use Rattle.path_eval.specs.Evaluating.{nodelist}
pub use Rattle.path_eval.specs.Nodes.{only_node}
pub use Rattle.path_eval.specs.TooMany.{too_many}
pub use Rattle.path_parse.specs.NormalPath.{normal_path}
-- Images: which bytes of a device hold a state
pub use Rattle.store_commits.specs.Images.{Holds, Stands}
