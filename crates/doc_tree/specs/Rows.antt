-- The types that a `Tree` holds, as the logic holds them, for the clauses on what a `&mut` lends.
use denote.RattleType.{RattleType}
use Rattle.std.specs.contracts.alloc.Global as global
use Rattle.std.specs.contracts.vec.Vec as vec
use Rattle.std.specs.contracts.impls.GlobalAllocator.TheImpl.{ghosts}
use Rattle.name_map.specs.contracts.map.NameMap as names
use Rattle.doc_tree.specs.contracts.tree.Tree.{the_row}

-- `Vec<Tree>`
abbrev pub list_row : RattleType
list_row = vec.the_row the_row global.the_row ghosts

-- `NameMap<Tree>`
abbrev pub map_row : RattleType
map_row = names.the_row the_row
