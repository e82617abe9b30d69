use Rattle.std.proofs.Common.{string_bytes, sym, ◌∙◌}
use Rattle.std.proofs.lemmas.Str.{IsUtf8-past_char}
use Rattle.path_parse.specs.NormalPath.{normal_character}
use Rattle.path_parse.proofs.Written.{character_more, no_more}
use Rattle.path_parse.proofs.text.with_characters.Goals as goal

pub loop-character-preserved : goal.loop-character-preserved
loop-character-preserved c =
    let rest = c.loop-character.character-iterator.rest.now in
    let left = c.next.new.self.rest.now in
    record {
      utf8 = IsUtf8-past_char rest left c.in-Some.character c.loop-character.invariant.utf8 c.in-Some.ensures.steps.0;
      written = character_more normal_character (string_bytes c.loop-character.text) _ c.in-Some.character rest left c.loop-character.invariant.utf8 c.in-Some.ensures.steps.0 c.in_ok-text.ensures ∙ c.loop-character.invariant.written;
    }

pub returns : goal.returns
returns c =
    sym (no_more normal_character (string_bytes c.loop-character.text) c.loop-character.character-iterator.rest.now c.in-None.ensures.steps.0.0) ∙ c.loop-character.invariant.written
