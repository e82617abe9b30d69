-- The segments that the grammar marks as singular are those of the standard's own productions.
use Rattle.std.proofs.Common.{◌≡◌, Bool, true, refl}
use Rattle.path_grammar.specs.Syntax.{Segments}
use Rattle.path_grammar.specs.Characters.{Text}
use Rattle.path_grammar.specs.Grammar.{SegmentsAt, segments_end, segments_more, child_bracketed, child_dotted, descendant_bracketed, descendant_dotted, singular_bracket, any_bracket, dotted_wildcard, dotted_name}
use Rattle.path_grammar.specs.Singular.{SingularSegmentsAt, singular_end, bracketed_segment, dotted_segment}

marked : {q : Segments} {b : Bool} {t r : Text} → SegmentsAt q b t r → b ≡ true → SingularSegmentsAt q t r
marked segments_end is = singular_end
marked (segments_more blanks (child_bracketed (singular_bracket s)) more) is = bracketed_segment blanks s (marked more is)
marked (segments_more blanks (child_bracketed (any_bracket a s ss)) more) is = absurd (cc)
marked (segments_more blanks (child_dotted dotted_wildcard) more) is = absurd (cc)
marked (segments_more blanks (child_dotted (dotted_name n)) more) is = dotted_segment blanks n (marked more is)
marked (segments_more blanks (descendant_bracketed s) more) is = absurd (cc)
marked (segments_more blanks (descendant_dotted s) more) is = absurd (cc)

pub singular : {q : Segments} {t r : Text} → SegmentsAt q true t r → SingularSegmentsAt q t r
singular s = marked s refl

pub segments : {q : Segments} {t r : Text} → SingularSegmentsAt q t r → SegmentsAt q true t r
segments singular_end = segments_end
segments (bracketed_segment blanks s more) = segments_more blanks (child_bracketed (singular_bracket s)) (segments more)
segments (dotted_segment blanks n more) = segments_more blanks (child_dotted (dotted_name n)) (segments more)
