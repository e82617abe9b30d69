-- The lines of the replies that are written byte by byte.
use Rattle.std.proofs.Common.{◌≡◌, ℕ, List, [], ◌∷◌, ◌++◌, codes, decimal, refl, ap, ◌∙◌, sym, Bool, true, false, cond, eqb, arith, append_assoc, Option, Some, None}
use Rattle.json.specs.Print.{escape, escape_byte, quoted}
use Rattle.refusals.specs.Names.{name_of, name_in, names}
use Rattle.refusals.specs.declared.numbers.TheConstants.{MARK}
use Rattle.doc_changes.specs.Marks.{Mark}
use Rattle.doc_changes.specs.declared.refusal.Refusal.{Refusal}
use Rattle.std.proofs.Common.{subst, pos, ◌&&◌, ◌||◌, ap₂, ◌<◌, nat_lt}
use Rattle.std.proofs.lemmas.Bool.{ne_eqb, ltb-true, eqb-true, le-ltb}
use Rattle.std.proofs.lemmas.Fmt.{decimal_digit, decimal_step}
use Rattle.std.specs.List.{list_all}
use Rattle.doc_tree.specs.Doc.{object, member, no_members, text, int, boolean}
use Rattle.store_commits.specs.declared.pump.Pump.{Pump}
use Rattle.store_commits.specs.declared.pump.CopyState.{CopyState}
use Rattle.store_commits.specs.declared.pump.CopyState.TheVariants.{Running, Switched, Dropped}
use Rattle.protocol.specs.Reply.{change_reply, snapshot_reply, copy_word, mark_reply, other_mark_reply, pump_reply, revision_reply, refusal_reply, sealed_reply, line_of, with_number}
use Rattle.protocol.specs.Written.{number_text, opening, told_text}

pub line_of-change_reply : (seq : ℕ) → line_of (change_reply seq) ≡ codes "{\"ok\":true,\"seq\":" ++ (decimal seq ++ codes "}\n")
unfolding escape_byte
line_of-change_reply seq = ap (λ t. codes "{\"ok\":true,\"seq\":" ++ t) (append_assoc (decimal seq) (codes "}") (codes "\n"))

pub line_of-snapshot_reply : (used : ℕ) → line_of (snapshot_reply used) ≡ codes "{\"ok\":true,\"used\":" ++ (decimal used ++ codes "}\n")
unfolding escape_byte
line_of-snapshot_reply used = ap (λ t. codes "{\"ok\":true,\"used\":" ++ t) (append_assoc (decimal used) (codes "}") (codes "\n"))

pub line_of-sealed_reply : line_of sealed_reply ≡ codes "{\"ok\":true}\n"
unfolding escape_byte
line_of-sealed_reply = refl

pub line_of-revision_reply : (revision : ℕ) → line_of (revision_reply revision) ≡ codes "{\"ok\":true,\"rev\":" ++ (decimal revision ++ codes "}\n")
unfolding escape_byte
line_of-revision_reply revision = ap (λ t. codes "{\"ok\":true,\"rev\":" ++ t) (append_assoc (decimal revision) (codes "}") (codes "\n"))

-- the line of the reply to a step
abbrev pump_text : CopyState → ℕ → List ℕ
pump_text copy written = codes "{\"copy\":\"" ++ (copy_word copy ++ (codes "\",\"ok\":true,\"written\":" ++ (decimal written ++ codes "}\n")))

pump_line : (copy : CopyState) (written : ℕ) → line_of (pump_reply (record { written = written; copy = copy })) ≡ pump_text copy written
unfolding escape_byte
pump_line Running written = ap (λ t. codes "{\"copy\":\"running\",\"ok\":true,\"written\":" ++ t) (append_assoc (decimal written) (codes "}") (codes "\n"))
pump_line Switched written = ap (λ t. codes "{\"copy\":\"switched\",\"ok\":true,\"written\":" ++ t) (append_assoc (decimal written) (codes "}") (codes "\n"))
pump_line Dropped written = ap (λ t. codes "{\"copy\":\"dropped\",\"ok\":true,\"written\":" ++ t) (append_assoc (decimal written) (codes "}") (codes "\n"))

pub line_of-pump_reply : (p : Pump) → line_of (pump_reply p) ≡ pump_text p.copy p.written
line_of-pump_reply p = pump_line p.copy p.written

-- the lines that tell a mark

pub line_of-mark_reply : (m : Option Mark) → line_of (mark_reply m) ≡ told_text (codes "{\"mark\":") m (codes ",\"ok\":true")
unfolding escape_byte
line_of-mark_reply None = refl
line_of-mark_reply (Some m) = simp append_assoc

decimal_mark : decimal MARK ≡ codes "25"
decimal_mark = decimal_step 25 (omega arith) (omega arith) ∙ ap (λ (ds : List ℕ). ds ++ codes "5") (decimal_digit 2 (omega arith))

pub line_of-other_mark_reply : (m : Option Mark) → line_of (other_mark_reply m) ≡ told_text (codes "{\"error\":\"mark\",\"mark\":") m (codes ",\"number\":25,\"ok\":false")
unfolding escape_byte
line_of-other_mark_reply None = ap (λ t. (codes "{\"error\":\"mark\",\"mark\":null,\"number\":" ++ (t ++ codes ",\"ok\":false}")) ++ codes "\n") decimal_mark
line_of-other_mark_reply (Some m) =
    ap (λ t. (codes "{\"error\":\"mark\",\"mark\":" ++ (quoted m.value ++ (codes ",\"number\":" ++ (t ++ (codes ",\"ok\":false,\"seq\":" ++ (decimal m.seq ++ codes "}")))))) ++ codes "\n") decimal_mark ∙ simp append_assoc

-- three pieces, one after the other
pub joined : (w x y z a b c : List ℕ) → x ≡ w ++ a → y ≡ x ++ b → z ≡ y ++ c → z ≡ w ++ (a ++ (b ++ c))
joined w x y z a b c p q r = r ∙ ap (λ t. t ++ c) (q ∙ ap (λ t. t ++ b) p) ∙ simp append_assoc

-- five pieces
pub joined_five : (z a b c d e : List ℕ) (y1 y2 y3 y4 y5 : List ℕ) → y1 ≡ z ++ a → y2 ≡ y1 ++ b → y3 ≡ y2 ++ c → y4 ≡ y3 ++ d → y5 ≡ y4 ++ e → y5 ≡ z ++ (a ++ (b ++ (c ++ (d ++ e))))
joined_five z a b c d e y1 y2 y3 y4 y5 p1 p2 p3 p4 p5 = joined y2 y3 y4 y5 c d e p3 p4 p5 ∙ ap (λ t. t ++ (c ++ (d ++ e))) (p2 ∙ ap (λ t. t ++ b) p1) ∙ simp append_assoc

-- a byte over the backslash, or a hyphen
abbrev is_plain_byte : ℕ → Bool
is_plain_byte b = nat_lt 92 b || eqb b 45

escape_byte-above : (b : ℕ) → 92 < b → escape_byte b ≡ b ∷ []
unfolding escape_byte
escape_byte-above b h =
    let quote : eqb b 34 ≡ false = ne_eqb b 34 (λ q. omega arith) in
    let backslash : eqb b 92 ≡ false = ne_eqb b 92 (λ q. omega arith) in
    let backspace : eqb b 8 ≡ false = ne_eqb b 8 (λ q. omega arith) in
    let form_feed : eqb b 12 ≡ false = ne_eqb b 12 (λ q. omega arith) in
    let line_feed : eqb b 10 ≡ false = ne_eqb b 10 (λ q. omega arith) in
    let carriage_return : eqb b 13 ≡ false = ne_eqb b 13 (λ q. omega arith) in
    let tab : eqb b 9 ≡ false = ne_eqb b 9 (λ q. omega arith) in
    let control : nat_lt b 32 ≡ false = le-ltb b 32 (omega arith) in
    simp (quote, backslash, backspace, form_feed) (simp (line_feed, carriage_return, tab, control))

escape_byte-hyphen : escape_byte 45 ≡ 45 ∷ []
unfolding escape_byte
escape_byte-hyphen = refl

escape_byte-plain : (b : ℕ) → is_plain_byte b ≡ true → escape_byte b ≡ b ∷ []
escape_byte-plain b h = go (nat_lt 92 b) (eqb b 45) refl refl h
  where
    go : (above hyphen : Bool) → nat_lt 92 b ≡ above → eqb b 45 ≡ hyphen → (above || hyphen) ≡ true → escape_byte b ≡ b ∷ []
    go true hyphen e f h = escape_byte-above b (ltb-true 92 b e)
    go false true e f h = subst (λ (x : ℕ). escape_byte x ≡ x ∷ []) (sym (eqb-true b 45 f)) escape_byte-hyphen
    go false false e f h = cc

abbrev is_plain : List ℕ → Bool
is_plain name = list_all is_plain_byte name

escape-plain : (name : List ℕ) → is_plain name ≡ true → escape name ≡ name
escape-plain [] h = refl
escape-plain (b ∷ name) h =
    let parts = both (is_plain_byte b) (is_plain name) h in
    ap₂ (λ x y. x ++ y) (escape_byte-plain b parts.0) (escape-plain name parts.1)
  where
    both : (x y : Bool) → (x && y) ≡ true → (x ≡ true) × (y ≡ true)
    both true y e = (refl, e)
    both false y e = cc

-- the texts of a table
abbrev are_plain : List (ℕ × List ℕ) → Bool
are_plain [] = true
are_plain (row ∷ rows) = is_plain row.1 && are_plain rows

is_plain-name_in : (table : List (ℕ × List ℕ)) → are_plain table ≡ true → (n : ℕ) → is_plain (name_in table n) ≡ true
is_plain-name_in [] h n = refl
is_plain-name_in (row ∷ rows) h n =
    let parts = both (is_plain row.1) (are_plain rows) h in
    elim (eqb n row.0) as (λ b. is_plain (cond b row.1 (name_in rows n)) ≡ true) [ true ↦ parts.0 | false ↦ is_plain-name_in rows parts.1 n ]
  where
    both : (x y : Bool) → (x && y) ≡ true → (x ≡ true) × (y ≡ true)
    both true y e = (refl, e)
    both false y e = cc

escape-name_of : (n : ℕ) → escape (name_of n) ≡ name_of n
escape-name_of n = escape-plain (name_of n) (is_plain-name_in names refl n)

-- what a refusal's line has behind its number
abbrev ending : Option ℕ → Option ℕ → List ℕ
ending op rev = number_text (codes ",\"op\":") op ++ (number_text (codes ",\"rev\":") rev ++ codes "}\n")

-- the line of a refusal with this name
abbrev refusal_text : List ℕ → ℕ → Option ℕ → Option ℕ → Option ℕ → List ℕ
refusal_text name number change op rev = opening change ++ (codes "\"error\":\"" ++ (name ++ (codes "\",\"number\":" ++ (decimal number ++ (codes ",\"ok\":false" ++ ending op rev)))))

refusal_line : (name : List ℕ) (number : ℕ) (change op rev : Option ℕ) → escape name ≡ name
    → line_of (object (with_number (codes "change") change (member (codes "error") (text name) (member (codes "number") (int (pos number)) (member (codes "ok") (boolean false) (with_number (codes "op") op (with_number (codes "rev") rev no_members)))))))
    ≡ refusal_text name number change op rev
unfolding escape_byte
refusal_line name number None None None h =
    ap (λ t. (codes "{\"error\":\"" ++ ((t ++ codes "\"") ++ (codes ",\"number\":" ++ (decimal number ++ (codes ",\"ok\":false}"))))) ++ codes "\n") h ∙ simp append_assoc
refusal_line name number None None (Some rev) h =
    ap (λ t. (codes "{\"error\":\"" ++ ((t ++ codes "\"") ++ (codes ",\"number\":" ++ (decimal number ++ (codes ",\"ok\":false,\"rev\":" ++ (decimal rev ++ codes "}")))))) ++ codes "\n") h ∙ simp append_assoc
refusal_line name number None (Some op) None h =
    ap (λ t. (codes "{\"error\":\"" ++ ((t ++ codes "\"") ++ (codes ",\"number\":" ++ (decimal number ++ (codes ",\"ok\":false,\"op\":" ++ (decimal op ++ codes "}")))))) ++ codes "\n") h ∙ simp append_assoc
refusal_line name number None (Some op) (Some rev) h =
    ap (λ t. (codes "{\"error\":\"" ++ ((t ++ codes "\"") ++ (codes ",\"number\":" ++ (decimal number ++ (codes ",\"ok\":false,\"op\":" ++ (decimal op ++ (codes ",\"rev\":" ++ (decimal rev ++ codes "}")))))))) ++ codes "\n") h ∙ simp append_assoc
refusal_line name number (Some n) None None h =
    ap (λ t. (codes "{\"change\":" ++ (decimal n ++ (codes ",\"error\":\"" ++ ((t ++ codes "\"") ++ (codes ",\"number\":" ++ (decimal number ++ (codes ",\"ok\":false}"))))))) ++ codes "\n") h ∙ simp append_assoc
refusal_line name number (Some n) None (Some rev) h =
    ap (λ t. (codes "{\"change\":" ++ (decimal n ++ (codes ",\"error\":\"" ++ ((t ++ codes "\"") ++ (codes ",\"number\":" ++ (decimal number ++ (codes ",\"ok\":false,\"rev\":" ++ (decimal rev ++ codes "}")))))))) ++ codes "\n") h ∙ simp append_assoc
refusal_line name number (Some n) (Some op) None h =
    ap (λ t. (codes "{\"change\":" ++ (decimal n ++ (codes ",\"error\":\"" ++ ((t ++ codes "\"") ++ (codes ",\"number\":" ++ (decimal number ++ (codes ",\"ok\":false,\"op\":" ++ (decimal op ++ codes "}")))))))) ++ codes "\n") h ∙ simp append_assoc
refusal_line name number (Some n) (Some op) (Some rev) h =
    ap (λ t. (codes "{\"change\":" ++ (decimal n ++ (codes ",\"error\":\"" ++ ((t ++ codes "\"") ++ (codes ",\"number\":" ++ (decimal number ++ (codes ",\"ok\":false,\"op\":" ++ (decimal op ++ (codes ",\"rev\":" ++ (decimal rev ++ codes "}")))))))))) ++ codes "\n") h ∙ simp append_assoc

pub line_of-refusal_reply : (r : Refusal) → line_of (refusal_reply r) ≡ refusal_text (name_of r.number) r.number r.change r.op r.rev
line_of-refusal_reply r = refusal_line (name_of r.number) r.number r.change r.op r.rev (escape-name_of r.number)

-- seven pieces, one after the other
pub joined_seven : (z a b c d e f g : List ℕ) (y1 y2 y3 y4 y5 y6 y7 : List ℕ) → y1 ≡ z ++ a → y2 ≡ y1 ++ b → y3 ≡ y2 ++ c → y4 ≡ y3 ++ d → y5 ≡ y4 ++ e → y6 ≡ y5 ++ f → y7 ≡ y6 ++ g
    → y7 ≡ z ++ (a ++ (b ++ (c ++ (d ++ (e ++ (f ++ g))))))
joined_seven z a b c d e f g y1 y2 y3 y4 y5 y6 y7 p1 p2 p3 p4 p5 p6 p7 =
    joined y4 y5 y6 y7 e f g p5 p6 p7 ∙ ap (λ t. t ++ (e ++ (f ++ g))) (joined y1 y2 y3 y4 b c d p2 p3 p4 ∙ ap (λ t. t ++ (b ++ (c ++ d))) p1) ∙ simp append_assoc

-- eight pieces
pub joined_eight : (z a b c d e f g h : List ℕ) (y1 y2 y3 y4 y5 y6 y7 y8 : List ℕ) → y1 ≡ z ++ a → y2 ≡ y1 ++ b → y3 ≡ y2 ++ c → y4 ≡ y3 ++ d → y5 ≡ y4 ++ e → y6 ≡ y5 ++ f → y7 ≡ y6 ++ g → y8 ≡ y7 ++ h
    → y8 ≡ z ++ (a ++ (b ++ (c ++ (d ++ (e ++ (f ++ (g ++ h)))))))
joined_eight z a b c d e f g h y1 y2 y3 y4 y5 y6 y7 y8 p1 p2 p3 p4 p5 p6 p7 p8 =
    joined_seven y1 b c d e f g h y2 y3 y4 y5 y6 y7 y8 p2 p3 p4 p5 p6 p7 p8 ∙ ap (λ t. t ++ (b ++ (c ++ (d ++ (e ++ (f ++ (g ++ h))))))) p1 ∙ append_assoc z a (b ++ (c ++ (d ++ (e ++ (f ++ (g ++ h))))))

-- nine pieces
pub joined_nine : (z o a b c d e f g h : List ℕ) (y0 y1 y2 y3 y4 y5 y6 y7 y8 : List ℕ) → y0 ≡ z ++ o → y1 ≡ y0 ++ a → y2 ≡ y1 ++ b → y3 ≡ y2 ++ c → y4 ≡ y3 ++ d → y5 ≡ y4 ++ e → y6 ≡ y5 ++ f → y7 ≡ y6 ++ g → y8 ≡ y7 ++ h
    → y8 ≡ z ++ (o ++ (a ++ (b ++ (c ++ (d ++ (e ++ (f ++ (g ++ h))))))))
joined_nine z o a b c d e f g h y0 y1 y2 y3 y4 y5 y6 y7 y8 p0 p1 p2 p3 p4 p5 p6 p7 p8 =
    joined_eight y0 a b c d e f g h y1 y2 y3 y4 y5 y6 y7 y8 p1 p2 p3 p4 p5 p6 p7 p8 ∙ ap (λ t. t ++ (a ++ (b ++ (c ++ (d ++ (e ++ (f ++ (g ++ h)))))))) p0 ∙ append_assoc z o (a ++ (b ++ (c ++ (d ++ (e ++ (f ++ (g ++ h)))))))
