use Rattle.std.proofs.Common.{◌++◌, string_bytes, decimal, sym, ap, ◌∙◌, arith}
use Rattle.std.specs.Prelude.{codes}
use Rattle.std.proofs.lemmas.Str.{encodes-IsAscii}
use Rattle.std.proofs.lemmas.Fmt.{IsAscii-decimal}
use Rattle.path_parse.proofs.Written.{between, bracket, bracket_end}
use Rattle.path_parse.proofs.text.with_index.Goals as goal

pub returns : goal.returns
returns c =
    let digits = c.format.ensures.text ∙ sym (encodes-IsAscii (decimal c.args.index) (IsAscii-decimal c.args.index (omega arith))) in
    between _ _ _ _ (codes "[") (decimal c.args.index) (codes "]") bracket bracket_end
    c.in_ok-push_str.ensures.bytes (c.in_ok-push_str-2.ensures.bytes ∙ ap (λ l. string_bytes c.push_str.new.self ++ l) digits) c.in_ok-push_str-3.ensures.bytes
