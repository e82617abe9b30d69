-- Two arguments, read with what follows each.
use Rattle.std.proofs.Common.{◌≡◌, Bool, true, Option, Some, None, option_map, refl, ◌∙◌}
use Rattle.path_grammar.specs.Syntax.{Expression, Operand, logical_or, no_expressions}
use Rattle.path_grammar.specs.Characters.{Text}
use Rattle.path_grammar.specs.Reading.{◌>>=◌, after_character, skip, read_two_arguments}

abbrev pub after_argument : (Text → Option (Operand × Bool × Text)) → Text → Option Text
after_argument read_argument t = option_map (λ x. skip x.2) (read_argument (skip t))

regrouped : {X Y Z : Type 0} (o : Option X) (f : X → Y) (more : Y → Option Z) → (o >>= λ x. more (f x)) ≡ (option_map f o >>= more)
regrouped None f more = refl
regrouped (Some x) f more = refl

same_next : {X Y : Type 0} (o : Option X) (f g : X → Option Y) → ((x : X) → f x ≡ g x) → (o >>= f) ≡ (o >>= g)
same_next None f g same = refl
same_next (Some x) f g same = same x

pub two_arguments : (inner : Text → Option (Expression × Bool × Text)) (read_argument : Text → Option (Operand × Bool × Text)) (t : Text)
    → read_two_arguments inner read_argument t ≡ (after_argument read_argument t >>= λ w. after_character 44 w >>= λ u. after_argument read_argument u >>= λ v. after_character 41 v >>= λ r. Some (logical_or no_expressions, true, r))
unfolding read_two_arguments
two_arguments inner read_argument t =
    regrouped (read_argument (skip t)) (λ x. skip x.2) _
    ∙ same_next (after_argument read_argument t) _ _ (λ w. same_next (after_character 44 w) _ _ (λ u. regrouped (read_argument (skip u)) (λ x. skip x.2) _))
