-- Where a call stopped, its caller stops with the same error.
use Rattle.std.proofs.Common.{◌≡◌, Option, Some, None, Result, Ok, Err, refl}
use Rattle.std.specs.Result.{IsErrAnd}
use Rattle.path_grammar.specs.Reading.{◌>>=◌}
use Rattle.path_parse.specs.declared.stop.Stop.{Stop}
use Rattle.path_parse.specs.declared.stop.Stop.TheVariants.{Memory, Syntax}
use Rattle.path_parse.specs.Gives.{Gives, Stops}

-- for want of memory
pub refused : {X Y : Type 0} (view : X → Y) (read : Option Y) (r : Result X Stop) → IsErrAnd r (λ e. e ≡ Memory) → Gives view r read
refused view read (Ok x) is = absurd is
refused view read (Err e) is = rw is tt

-- where the caller reads on with what `o` gives
pub passed : {X Y Z : Type 0} (view : X → Y) (o : Option Z) (more : Z → Option Y) (r : Result X Stop) (e : Stop) → IsErrAnd r (λ f. f ≡ e) → Stops e o → Gives view r (o >>= more)
passed view o more (Ok x) e is stops = absurd is
passed view o more (Err f) Memory is stops = rw is tt
passed view o more (Err f) Syntax is stops = rw (is, stops) refl

-- what `o` gives is put into something that is always made
pub made : {Y Z : Type 0} (make : Y → Z) (o : Option Y) (e : Stop) → Stops e (o >>= λ x. Some (make x)) → Stops e o
made make o Memory stops = tt
made make None Syntax stops = refl
made make (Some x) Syntax stops = absurd cc
