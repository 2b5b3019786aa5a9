-- A search as the code has it.
use Rattle.std.specs.Prelude.{List, [], map}
use Rattle.shape_data.specs.declared.program.Node.{Node}
use Rattle.sym_canon.specs.declared.parts.Pair.{Pair}
use Rattle.solve_laws.specs.Candidates.Searching as searching
use Rattle.pre_gen.specs.declared.searching.Search.{Search}

-- the definitions' search
abbrev pub search_in : Search → searching.Search
search_in search = record { nodes = search.nodes.items; queue = search.queue.items; pres = search.pres; first_drop = search.first_drop }

-- no pairs for each of the nodes
abbrev pub no_pairs_of : List Node → List (List Pair)
no_pairs_of nodes = map (λ node. []) nodes
