use Rattle.std.proofs.Common.{◌≡◌, ◌∙◌, ℕ, List, Option, Some, ap, sym, unwrap_or}
use Rattle.doc_store.specs.Formats.{status_of}
use Rattle.doc_store.specs.declared.status.Status.{Status}
use Rattle.protocol.specs.Reply.{line_of}
use Rattle.status_lines.specs.Status.{id_of, identity_text, status_reply}
use Rattle.file_programs.specs.Notices.{word_of, worded_status}
use Rattle.file_programs.proofs.Fine.{if_ok}
use Rattle.file_programs.proofs.Noting.{id_in_3, line_in_2, line_in_3}
use Rattle.file_programs.proofs.notices.checked_line.Goals as goal

pub returns-in-Two : goal.returns-in-Two
returns-in-Two c =
    let account = c.args.store.now.account in
    if_ok c.status_line.result (λ line is. is ∙ ap (λ (s : Status). line_of (status_reply s)) c.status-status.ensures.status ∙ sym (line_in_2 account c.args.notice (sym c.format.ensures ∙ c.in-Two.is))) c.status_line.ensures

pub returns-in_ok-id-in-Three : goal.returns-in_ok-id-in-Three
returns-in_ok-id-in-Three c =
    let account = c.args.store.now.account in
    let word = c.word_of.result.now in
    let text = c.as_str.result.now in
    let three = sym c.format.ensures ∙ c.in-Three.is in
    let number = c.unwrap_or.ensures ∙ ap (λ (s : Status). unwrap_or s.identity 0) c.status-status.ensures.status in
    let id : Some text ≡ id_of (status_of account) = ap Some (c.as_str.ensures.value ∙ c.in_ok-id-in-Three.ensures ∙ ap identity_text number) ∙ sym (id_in_3 account three) in
    if_ok c.shown_line.result (λ line is. is
    ∙ ap (λ (s : Status). line_of (worded_status s word (Some text))) c.status-status.ensures.status
    ∙ ap (λ (w : List ℕ). line_of (worded_status (status_of account) w (Some text))) c.word_of.ensures
    ∙ ap (λ (o : Option (List ℕ)). line_of (worded_status (status_of account) (word_of c.args.notice) o)) id
    ∙ sym (line_in_3 account c.args.notice three)) (c.shown_line.ensures (worded_status c.status-status.result word (Some text)) (λ log sent. sent))
