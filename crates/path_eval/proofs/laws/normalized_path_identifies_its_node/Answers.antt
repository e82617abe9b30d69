use Rattle.path_eval.proofs.laws.normalized_path_identifies_its_node.Goals as goal

pub returns : goal.returns
returns c document found steps sound short is =
    let readable = c.locations_have_exact_indexes.ensures document found steps sound short is in
    (c.spells_its_query_only.ensures steps readable.0 readable.1, c.location_is_its_only_node.ensures.alone document found steps is)
