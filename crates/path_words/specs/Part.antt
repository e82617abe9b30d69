-- Parts as reading has them.
use Rattle.std.specs.Prelude.{Bool}
use Rattle.path_grammar.specs.Characters.{Text}
use Rattle.path_words.specs.declared.part.Part.{Part}

-- what is seen of the value, whether something is left out, and the rest
abbrev pub part_of : {X Y : Type 0} → (X → Y) → Part X → Y × Bool × Text
part_of view p = (view p.value, p.left_out, p.rest.now)
