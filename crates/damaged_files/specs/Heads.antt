-- The text of a frame's line before its command.
use Rattle.std.specs.Prelude.{ℕ, List, ◌++◌, Bool, true, false, codes, decimal}
use Rattle.log_frames.specs.declared.kind.Kind.{Kind}
use Rattle.log_frames.specs.declared.kind.Kind.TheVariants.{Last, More, Kept, Noted}
use Rattle.store_parts.specs.declared.checking.Check.{Check}
use Rattle.store_parts.specs.declared.checking.Check.TheVariants.{Held, Failed, Unknown}
use Rattle.damaged_files.specs.Spots.{text_of_spot}
use Rattle.damaged_files.specs.declared.head.Back.{Back}
use Rattle.damaged_files.specs.declared.head.Front.{Front}
use Rattle.damaged_files.specs.declared.head.Head.{Head}

-- what is known of the checksum of the bytes that a frame is among
abbrev pub word_of : Check → List ℕ
word_of Held = codes "held"
word_of Failed = codes "failed"
word_of Unknown = codes "unknown"

abbrev pub bool_word : Bool → List ℕ
bool_word true = codes "true"
bool_word false = codes "false"

-- the object, up to the half
abbrev pub text_of_front : Front → List ℕ
text_of_front front = codes "{\"byte\":" ++ decimal front.byte ++ codes ",\"check\":\"" ++ word_of front.check ++ codes "\",\"counted\":" ++ bool_word front.counted

-- and from there on
abbrev pub text_of_back : Back → List ℕ
text_of_back back = codes "\"half\":" ++ decimal back.half ++ codes "," ++ text_of_spot back.spot

-- the name under which the line has the frame's body: that of a mark is no command
abbrev pub member_of : Kind → List ℕ
member_of Last = codes "command"
member_of More = codes "command"
member_of Kept = codes "command"
member_of Noted = codes "mark"

abbrev pub text_of_head : Head → List ℕ
text_of_head head = text_of_front head.front ++ codes "," ++ text_of_back head.back ++ codes ",\"" ++ member_of head.kind ++ codes "\":"
