use Rattle.std.proofs.Common.{◌≡◌, List, ℕ, Option, None, Some, option_map, ◌++◌, codes, ap, sym, ◌∙◌}
use Rattle.std.proofs.lemmas.List.{append-nil}
use Rattle.std.proofs.lemmas.Result.{IfOk-weaker}
use Rattle.json.specs.Print.{quoted}
use Rattle.doc_changes.specs.Marks.{Mark}
use Rattle.protocol.specs.Frames.{note_of}
use Rattle.protocol.specs.Written.{mark_text}
use Rattle.protocol.proofs.Frames.{no_mark, some_mark}
use Rattle.protocol.proofs.Texts.{joined_five}
use Rattle.protocol.proofs.changes.with_mark.Goals as goal

pub returns-in_default : goal.returns-in_default
returns-in_default c = λ m noted is.
    let none : m ≡ None = no_mark m (sym (ap (option_map (λ b. b.now)) c.in_default.is) ∙ is) in
    sym (append-nil c.args.line.items) ∙ ap (λ (o : Option Mark). c.args.line.items ++ mark_text o) (sym none)

pub key_and_value-requires : goal.key_and_value-requires
key_and_value-requires c =
    let s = some_mark c.requires.0 c.in-Some.body.now c.requires.1 (sym (ap (option_map (λ b. b.now)) c.in-Some.is) ∙ c.requires.2) in
    (s.0, s.1, s.2)

pub returns : goal.returns
returns c = λ m noted is.
    let s = some_mark m c.in-Some.body.now noted (sym (ap (option_map (λ b. b.now)) c.in-Some.is) ∙ is) in
    let both = c.in_ok-key.ensures s.0 s.1 s.2 in
    let line = c.args.line.items in
    IfOk-weaker c.with_bytes-3.result _ _ (λ longer whole.
    joined_five line (codes ",\"mark\":{\"key\":") (quoted s.0.key) (codes ",\"value\":") (quoted s.0.value) (codes "}")
    c.in_ok-named.named.items c.in_ok-keyed.keyed.items c.in_ok-parted.parted.items c.in_ok-valued.valued.items longer.items
    c.in_ok-named.ensures (c.in_ok-keyed.ensures ∙ ap (λ (t : List ℕ). c.in_ok-named.named.items ++ quoted t) (c.as_str.ensures.value ∙ both.0))
    c.in_ok-parted.ensures (c.in_ok-valued.ensures ∙ ap (λ (t : List ℕ). c.in_ok-parted.parted.items ++ quoted t) (c.as_str-2.ensures.value ∙ both.1)) whole
    ∙ ap (λ (o : Option Mark). line ++ mark_text o) (sym s.3)) c.with_bytes-3.ensures
