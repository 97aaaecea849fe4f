-- Where what each module exports of others stays inside a graph, each module may be asked for; and the other way round.
use Rattle.std.proofs.Common.{◌≡◌, ℕ, ◌<◌, true, nat_lt, length, All, arith}
use Rattle.std.specs.List.{list_all}
use Rattle.std.proofs.lemmas.Bool.{and_parts, and_from}
use Rattle.std.proofs.lemmas.Bool.Decides.{nat_tests}
use Rattle.std.proofs.lemmas.List.Elements.{All-contains, Contains-get_or}
use Rattle.std.specs.List.{slice_index_or}
use Rattle.std.proofs.lemmas.List.Sums.{AllPass-from_list_all, list_all-from_AllPass}
use Rattle.esm_resolve.specs.Graph.{Graph, IsReached, IsSoundAt, AreAllSound}
use Rattle.esm_resolve.specs.Inner.Inside.{is_inside, is_sound_at}

lt_of_true : (m n : ℕ) → nat_lt m n ≡ true → m < n
lt_of_true m n h = grind (arith, nat_tests)

true_of_lt : (m n : ℕ) → m < n → nat_lt m n ≡ true
true_of_lt m n h = grind (arith, nat_tests)

inside_parts : (g : Graph) (x request : ℕ) → is_inside g x request ≡ true → (request < length (g.entries x).requests) × (g.target x request < g.size)
inside_parts g x request h =
    let parts = and_parts (nat_lt request (length (g.entries x).requests)) (nat_lt (g.target x request) g.size) h in
    (lt_of_true _ _ parts.0, lt_of_true _ _ parts.1)

inside_from : (g : Graph) (x request : ℕ) → request < length (g.entries x).requests → g.target x request < g.size → is_inside g x request ≡ true
inside_from g x request own leads =
    and_from (nat_lt request (length (g.entries x).requests)) (nat_lt (g.target x request) g.size) (true_of_lt _ _ own) (true_of_lt _ _ leads)

-- the parts of a module's test
indirects_pass : (g : Graph) (x : ℕ) → is_sound_at g x ≡ true → All (λ e. is_inside g x e.request ≡ true) (g.entries x).indirects
indirects_pass g x h =
    AllPass-from_list_all (λ e. is_inside g x e.request) (g.entries x).indirects (and_parts (list_all (λ e. is_inside g x e.request) (g.entries x).indirects) (list_all (is_inside g x) (g.entries x).stars) h).0

stars_pass : (g : Graph) (x : ℕ) → is_sound_at g x ≡ true → All (λ r. is_inside g x r ≡ true) (g.entries x).stars
stars_pass g x h =
    AllPass-from_list_all (is_inside g x) (g.entries x).stars (and_parts (list_all (λ e. is_inside g x e.request) (g.entries x).indirects) (list_all (is_inside g x) (g.entries x).stars) h).1

-- where each module passes its test, each that is reached from one is in the graph, and each may be asked for
module _ (g : Graph) (each : (x : ℕ) → x < g.size → is_sound_at g x ≡ true) where
  reached_below : (m : ℕ) → m < g.size → {x : ℕ} → IsReached g m x → x < g.size
  reached_below m below IsReached.itself = below
  reached_below m below (IsReached.by_name {x = x} {e = e} r c) =
      (inside_parts g x e.request (All-contains (λ e. is_inside g x e.request ≡ true) (g.entries x).indirects e (indirects_pass g x (each x (reached_below m below r))) c)).1
  reached_below m below (IsReached.by_star {x = x} {r = s} r c) =
      (inside_parts g x s (All-contains (λ s. is_inside g x s ≡ true) (g.entries x).stars s (stars_pass g x (each x (reached_below m below r))) c)).1

  sound_at : (x : ℕ) → x < g.size → IsSoundAt g x
  sound_at x h = record {
    below = h;
    exports = record {
      indirects = λ k d inside. (inside_parts g x (slice_index_or (g.entries x).indirects k d).request (indirects_pass g x (each x h) k d inside)).0;
      stars = λ k d inside. (inside_parts g x (slice_index_or (g.entries x).stars k d) (stars_pass g x (each x h) k d inside)).0;
    };
  }

  pub all_sound : AreAllSound g
  all_sound m below x r = sound_at x (reached_below m below r)

-- where each may be asked for, each passes its test
pub passes : (g : Graph) → AreAllSound g → (x : ℕ) → x < g.size → is_sound_at g x ≡ true
passes g sound x below =
    let at : IsSoundAt g x = sound x below x IsReached.itself in
    let indirects : All (λ e. is_inside g x e.request ≡ true) (g.entries x).indirects =
    λ k d inside. let e = slice_index_or (g.entries x).indirects k d in
    inside_from g x e.request (at.exports.indirects k d inside)
    (sound x below (g.target x e.request) (IsReached.by_name IsReached.itself (Contains-get_or (g.entries x).indirects k d inside))).below in
    let stars : All (λ r. is_inside g x r ≡ true) (g.entries x).stars =
    λ k d inside. let r = slice_index_or (g.entries x).stars k d in
    inside_from g x r (at.exports.stars k d inside)
    (sound x below (g.target x r) (IsReached.by_star IsReached.itself (Contains-get_or (g.entries x).stars k d inside))).below in
    and_from (list_all (λ e. is_inside g x e.request) (g.entries x).indirects) (list_all (is_inside g x) (g.entries x).stars)
    (list_all-from_AllPass (λ e. is_inside g x e.request) (g.entries x).indirects indirects)
    (list_all-from_AllPass (is_inside g x) (g.entries x).stars stars)
