use Rattle.std.proofs.Common.{ap, ◌∙◌, sym, arith, length, length-append, ◌&&◌, ◌++◌}
use Rattle.std.proofs.lemmas.List.Folds.{list_all-append}
use Rattle.protocol.specs.Lines.{is_blank, is_blank_byte}
use Rattle.protocol.proofs.Keeps.{HasNoBreak-append, longer, if_done}
use Rattle.protocol.proofs.line.Line.extend.Goals as goal

pub returns-then-has_room : goal.returns-then-has_room
returns-then-has_room c = λ q h.
    let more = c.args.more.now in
    let room = c.has_room.ensures.yes c.if-has_room.true in
    record {
      short = λ e.
          let same = h.short e in
          let as_long = ap length same.0 in
          (if_done c.extend_from_slice.result _ _ _ _ c.unwrap.ensures c.extend_from_slice.ensures.items ∙ ap (λ t. t ++ more) same.0, omega (arith, length-append q more, room.1, c.args.self.now.bytes.ok.0));
      long = λ e. let not_long = room.0 in cc;
      blank = c.is_blank_still-self.ensures ∙ ap (λ b. b && is_blank more) h.blank ∙ sym (list_all-append is_blank_byte q more);
      whole = HasNoBreak-append q more h.whole c.requires;
    }

pub returns-else-has_room : goal.returns-else-has_room
returns-else-has_room c = λ q h.
    let more = c.args.more.now in
    record {
      short = λ e. cc;
      long = λ e. longer q more c.args.self.now.bytes.items c.args.self.now.long h.short h.long (λ n. let over = c.has_room.ensures.no c.if-has_room.false n in omega (arith, over, c.args.self.now.bytes.ok.0));
      blank = c.is_blank_still-self.ensures ∙ ap (λ b. b && is_blank more) h.blank ∙ sym (list_all-append is_blank_byte q more);
      whole = HasNoBreak-append q more h.whole c.requires;
    }
