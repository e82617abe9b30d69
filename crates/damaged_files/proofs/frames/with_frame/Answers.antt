use Rattle.std.proofs.Common.{◌≡◌, ◌∙◌, ◌++◌, ap, codes, drop, take}
use Rattle.frame_search.specs.Places.{head_of}
use Rattle.damaged_files.specs.Frames.{frame_head}
use Rattle.damaged_files.proofs.Framed.{after_three, rest_of}
use Rattle.damaged_files.proofs.frames.with_frame.Goals as goal

pub returns : goal.returns
returns c =
    let place = c.args.place in
    let text = c.args.text.items in
    let head = frame_head c.args.part.now c.args.check place.at place.kind place.seq in
    let body = drop (head_of c.args.version) (take place.len (drop place.at c.args.bytes.now)) in
    let is = rest_of c.args.bytes.now place.at place.len (head_of c.args.version) c.head_of.result c.head_of.ensures in
    let first : c.extend_from_slice.new.self.items ≡ (text ++ head) ++ body = c.in_ok-extend_from_slice.ensures.items ∙ ap (λ l. c.in_ok-text.text.items ++ l) is ∙ ap (λ l. l ++ body) c.in_ok-text.ensures in
    after_three text head body (codes "}\n") c.extend_from_slice.new.self.items c.extend_from_slice-2.new.self.items first c.in_ok-extend_from_slice-2.ensures.items
