use Rattle.std.proofs.Common.{◌≡◌, ◌++◌, flat_map, chars, string_bytes, encode_utf8_all, IsUtf8}
use Rattle.path_parse.specs.NormalPath.{normal_character}
use Rattle.path_parse.proofs.text.with_characters.Given as goal

abbrev pub invariant-loop-character : goal.invariant-loop-character
invariant-loop-character l = record {
  utf8 : IsUtf8 l.character-iterator.rest.now;
  written : string_bytes l.text ++ encode_utf8_all (flat_map normal_character (chars l.character-iterator.rest.now))
      ≡ string_bytes l.fn.text ++ encode_utf8_all (flat_map normal_character (chars l.name));
}
