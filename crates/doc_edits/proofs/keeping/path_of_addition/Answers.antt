use Rattle.std.proofs.Common.{◌-◌, drop, length, take, decimal, ◌^◌, ◌<◌, sym, subst, ◌∙◌, arith}
use Rattle.doc_tree.specs.TreeView.{view}
use Rattle.doc_edits.specs.Change.{tokens_of}
use Rattle.doc_edits.specs.Keeping.{LeadsBack, with_last}
use Rattle.doc_edits.proofs.TakenBack.{leads_back, end_leads_back}
use Rattle.doc_edits.proofs.Restored.{same_path}
use Rattle.doc_edits.proofs.Walk.{as_str_step}
use Rattle.doc_edits.proofs.keeping.path_of_addition.Goals as goal

pub returns-in-Some : goal.returns-in-Some
returns-in-Some c =
    let d = view c.args.tree.now in
    let path = as_str_step c.args.path.now c.token-item.result c.as_str.result.now (omega arith) c.token-item.is c.as_str.ensures.value in
    let same = c.as_str-in-Some.ensures.value ∙ sym c.as_str.ensures.value in
    let small : c.in-Some.len < 2 ^ 64 = c.path_to.ensures.small in
    let rest = tokens_of (take (length c.args.path.now - 1) (drop 1 c.args.path.now)) in
    same_path c.path_to.result (with_last (decimal c.in-Some.len) c.as_str-in-Some.result.now rest) (λ ks. LeadsBack ks (tokens_of c.args.path.now) d) c.path_to.ensures.path
    (subst (λ t. LeadsBack (with_last (decimal c.in-Some.len) t rest) (tokens_of c.args.path.now) d) (sym same)
    (subst (λ ks. LeadsBack (with_last (decimal c.in-Some.len) c.as_str.result.now rest) ks d) (sym path) (end_leads_back c.in-Some.len c.as_str.result.now rest d small (sym c.in-Some.ensures))))

pub returns-in-None : goal.returns-in-None
returns-in-None c =
    let d = view c.args.tree.now in
    let path = as_str_step c.args.path.now c.token-item.result c.as_str.result.now (omega arith) c.token-item.is c.as_str.ensures.value in
    same_path c.copy_path.result _ (λ ks. LeadsBack ks (tokens_of c.args.path.now) d) c.copy_path.ensures
    (subst (λ ks. LeadsBack ks ks d) (sym path) (leads_back c.as_str.result.now _ d (sym c.in-None.ensures)))
