use Rattle.std.proofs.Common.{map, ap, ◌∙◌}
use Rattle.std.specs.Prelude.{chars}
use Rattle.doc_tree.specs.Place.{place_of}
use Rattle.path_parse.proofs.ReadBack.{names_are_utf8, read_as}
use Rattle.path_parse.proofs.normal_laws.reads_back.Goals as goal

pub returns : goal.returns
returns c =
    let places = map place_of c.args.steps.now in
    read_as places c.deref.result.now c.deref.utf8 (ap chars c.deref.ensures ∙ c.in_ok-text.ensures)
    (c.spells_its_query_only.ensures places (names_are_utf8 c.args.steps.now) c.requires)
    c.read.result c.read.ensures.ok c.read.ensures.err
