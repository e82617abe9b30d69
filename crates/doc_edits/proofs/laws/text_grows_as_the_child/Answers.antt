use Rattle.doc_edits.proofs.Sizes.{size-with_child}
use Rattle.doc_edits.proofs.laws.text_grows_as_the_child.Goals as goal

pub returns : goal.returns
returns c = size-with_child
