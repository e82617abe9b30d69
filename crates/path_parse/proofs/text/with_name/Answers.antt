use Rattle.std.proofs.Common.{flat_map}
use Rattle.std.specs.Prelude.{codes, chars}
use Rattle.path_parse.specs.NormalPath.{normal_character}
use Rattle.path_parse.proofs.Written.{between, quote, quote_end}
use Rattle.path_parse.proofs.text.with_name.Goals as goal

pub returns : goal.returns
returns c =
    between _ _ _ _ (codes "['") (flat_map normal_character (chars c.args.name.now)) (codes "']") quote quote_end
    c.in_ok-push_str.ensures.bytes c.in_ok-text.ensures c.in_ok-push_str-2.ensures.bytes
