use Rattle.std.proofs.Common.{◌≡◌, ◌++◌, flat_map, map, drop, string_bytes, encode_utf8_all}
use Rattle.path_grammar.specs.Lent.{lent_place}
use Rattle.path_parse.specs.NormalPath.{normal_step}
use Rattle.path_parse.proofs.text.lent_normal_text.Given as goal

abbrev pub invariant-loop-step : goal.invariant-loop-step
invariant-loop-step l =
    string_bytes l.text ++ encode_utf8_all (flat_map normal_step (map lent_place (drop l.step-index l.steps)))
    ≡ string_bytes l.initial.text ++ encode_utf8_all (flat_map normal_step (map lent_place l.steps))
