use Rattle.std.proofs.Common.{◌≡◌, ◌+◌, min, length, arith}
use Rattle.doc_tree.specs.Doc.{height}
use Rattle.doc_tree.specs.TreeView.{view}
use Rattle.doc_edits.specs.Change.{tokens_of}
use Rattle.doc_edits.specs.Size.{size}
use Rattle.doc_edits.proofs.Growths.{added}
use Rattle.doc_edits.proofs.Tokens.{tokens_len}
use Rattle.doc_edits.proofs.place.add.Goals as goal

pub returns-clause-grown : goal.returns-clause-grown
returns-clause-grown c =
    let v = view c.args.value in
    let is = c.in_ok-placed.ensures.placed in
    let reach : c.saturating_add-reach.result ≡ min (min (height v) 0xffff_ffff_ffff_ffff + length (tokens_of c.args.path.now)) 0xffff_ffff_ffff_ffff = omega (arith, c.requires.0, c.saturating_add-reach.ensures, tokens_len c.args.path.now) in
    let came = c.both.ensures (size v) is.beside c.requires.1 is.came in
    added (tokens_of c.args.path.now) v (view c.args.tree.now) (view c.insert.new.tree) c.saturating_add-reach.result c.both.result c.in_ok-placed.placed c.in_ok-placed.ensures.made reach is came
