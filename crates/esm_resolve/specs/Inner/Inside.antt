-- Tests of a graph, by what its modules export of others.
use Rattle.std.specs.Prelude.{ℕ, Bool, ◌&&◌, nat_lt, length}
use Rattle.std.specs.List.{list_all}
use Rattle.esm_resolve.specs.Graph.{Graph}

-- the request is one of the module's own, and leads to a module of the graph
abbrev pub is_inside : Graph → ℕ → ℕ → Bool
is_inside g x request = nat_lt request (length (g.entries x).requests) && nat_lt (g.target x request) g.size

-- each request of which it exports something is so
abbrev pub is_sound_at : Graph → ℕ → Bool
is_sound_at g x =
    list_all (λ e. is_inside g x e.request) (g.entries x).indirects && list_all (is_inside g x) (g.entries x).stars
