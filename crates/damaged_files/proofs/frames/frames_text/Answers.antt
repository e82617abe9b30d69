use Rattle.std.proofs.Common.{◌≡◌, ◌∙◌, ◌+◌, ◌++◌, ◌∷◌, ◌≤◌, [], List, ℕ, Option, append-nil, ap, sym, subst, arith, refl, length}
use Rattle.record_text.specs.Frame.{body_of}
use Rattle.frame_search.specs.Places.{IsFirstFrom, logged_in, place_in}
use Rattle.frame_search.specs.declared.search.Found.{Found}
use Rattle.store_salvage.specs.Gathering.{Placed}
use Rattle.store_salvage.proofs.Gathers.{of_found, stands_within, takes_some}
use Rattle.damaged_files.specs.Frames.{IsFramesText, frame_text, lines_of_frames}
use Rattle.damaged_files.proofs.Framed.{body_is, framed_more, framed_none, headed, none_past}
use Rattle.damaged_files.proofs.frames.frames_text.Goals as goal

pub loop-from-init : goal.loop-from-init
loop-from-init c = λ ps all. record { frames = ps; all = all; text_is = ap (λ (l : List ℕ). l ++ lines_of_frames c.args.part.now c.args.check ps) c.new-text.ensures.items }

pub loop-from-smaller : goal.loop-from-smaller
loop-from-smaller c =
    let f = c.in-Some.found in
    let is = of_found _ c.in_ok-found.field-0 f c.in-Some.is c.in_ok-found.ensures.found in
    let after = is.0 in
    let within = stands_within c.args.version c.args.bytes.now f.at f.len (logged_in f) is.1 in
    let some = takes_some c.args.version c.args.bytes.now f.at f.len (logged_in f) is.1 in
    omega (arith, after, within, some)

pub loop-from-preserved : goal.loop-from-preserved
loop-from-preserved c = λ ps all.
    let version = c.args.version in
    let bytes = c.args.bytes.now in
    let f = c.in-Some.found in
    let is = of_found _ c.in_ok-found.field-0 f c.in-Some.is c.in_ok-found.ensures.found in
    let first : IsFirstFrom version bytes c.loop-from.from f.at = subst (λ (o : Option Found). IsFirstFrom version bytes c.loop-from.from (place_in o (length bytes))) c.in-Some.is c.in_ok-found.ensures.first in
    let p : Placed = record { at = f.at; len = f.len; kind = f.kind; entry = (logged_in f).entry } in
    let line : c.in_ok-text.text.items ≡ c.loop-from.text.items ++ frame_text c.args.part.now c.args.check f.at f.kind f.seq (body_of p.entry.change) =
    c.in_ok-text.ensures ∙ ap (λ (l : List ℕ). c.loop-from.text.items ++ frame_text c.args.part.now c.args.check f.at f.kind f.seq l) (body_is version bytes f.at f.len (logged_in f) is.1) in
    framed_more version bytes c.args.part.now c.args.check c.args.begin c.loop-from.text.items c.in_ok-text.text.items p line ps (c.loop-from.invariant (p ∷ ps) (is.0, is.1, first, all))

pub returns-in_default : goal.returns-in_default
returns-in_default c =
    let version = c.args.version in
    let bytes = c.args.bytes.now in
    framed_none version bytes c.args.part.now c.args.check c.args.begin c.loop-from.text.items
    (c.loop-from.invariant [] (subst (λ (o : Option Found). IsFirstFrom version bytes c.loop-from.from (place_in o (length bytes))) c.in_default.is c.in_ok-found.ensures.first))

pub returns : goal.returns
returns c =
    let bytes = c.args.bytes.now in
    framed_none c.args.version bytes c.args.part.now c.args.check c.args.begin c.loop-from.text.items
    (c.loop-from.invariant [] (none_past c.args.version bytes c.loop-from.from (omega (arith, c.loop-from-test.false))))
