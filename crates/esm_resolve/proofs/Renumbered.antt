-- Resolutions, exported names and keys follow a renumbering of the modules.
use Rattle.std.proofs.Common.{◌≡◌, ◌⊎◌, inl, inr, ℕ, Bool, true, false, cond, nat_eq, List, [], ◌∷◌, ◌++◌, map, Contains, Option, Some, None, codes, refl, ap, subst, sym, ◌∙◌}
use Rattle.std.specs.Prelude.{◌||◌, filter}
use Rattle.std.specs.Option.{option_or, option_map}
use Rattle.std.specs.Str.{bytes_eq}
use Rattle.std.proofs.lemmas.Bool.{eqb-true, eq-eqb}
use Rattle.std.proofs.lemmas.List.{map-append}
use Rattle.esm_base.specs.Lists.{is_in}
use Rattle.esm_base.specs.declared.module_id.ModuleId.{ModuleId}
use Rattle.esm_ast.specs.Entries.{EntryLists}
use Rattle.esm_ast.specs.declared.entries.IndirectExport.{IndirectExport}
use Rattle.esm_ast.specs.declared.entries.LocalExport.{LocalExport}
use Rattle.esm_tree.specs.declared.node.Wanted.{Wanted}
use Rattle.esm_tree.specs.declared.node.Wanted.TheVariants as wanted
use Rattle.esm_resolve.specs.declared.graph.Binding.{Binding}
use Rattle.esm_resolve.specs.declared.graph.Binding.TheVariants as bindings
use Rattle.esm_resolve.specs.declared.graph.Resolution.{Resolution}
use Rattle.esm_resolve.specs.declared.graph.Resolution.TheVariants as resolutions
use Rattle.esm_resolve.specs.declared.pair.Export.{Export}
use Rattle.esm_resolve.specs.declared.pair.Export.TheVariants as exports
use Rattle.esm_resolve.specs.declared.pair.Pair.{Pair}
use Rattle.esm_resolve.specs.Graph.{Graph, IsReached}
use Rattle.esm_resolve.specs.Resolution.{End, module_id, pair_of, local_export, indirect_export, wanted_of, export_of, end_by, end_of, star_pairs, next_by, next_of, Reaches, LeadsTo, IsResolutionOf}
use Rattle.esm_resolve.specs.Names.{star_targets, StarWalk, StarWalks, own_names, is_passed_on, names_along, first_of_each, AreExportedNamesOf}
use Rattle.esm_resolve.specs.Keys.{is_one, KeepsResolved, AreNamespaceKeysOf}
use Rattle.esm_resolve.specs.Renumbered.{Renumbers, renumbered, FollowsNumbers}
use Rattle.esm_resolve.proofs.Members.{Contains-none, Contains-one, Contains-cons_cases, Contains-head, Contains-tail, Contains-map, Contains-map_cases}
use Rattle.esm_resolve.proofs.Search.Candidates.{IsWanted, IsBehindStar, next_cases}

-- ---- lists and options

either : {A : Type 0} (f : A → A) (a b : Option A) → option_or (option_map f a) (option_map f b) ≡ option_map f (option_or a b)
either f None b = refl
either f (Some x) b = refl

map_on : {A B : Type 0} (f g : A → B) (xs : List A) → ((x : A) → Contains xs x → f x ≡ g x) → map f xs ≡ map g xs
map_on f g [] h = refl
map_on f g (x ∷ xs) h = λ i. h x (Contains-head x xs) i ∷ map_on f g xs (λ y c. h y (Contains-tail x xs y c)) i

map_twice : {A B C : Type 0} (f : A → B) (g : B → C) (xs : List A) → map g (map f xs) ≡ map (λ x. g (f x)) xs
map_twice f g [] = refl
map_twice f g (x ∷ xs) = ap (λ ys. g (f x) ∷ ys) (map_twice f g xs)

bool_not : (b : Bool) → b ≡ true → b ≡ false → ⊥
bool_not true h k = cc
bool_not false h k = cc

module _ (g h : Graph) (number : ℕ → ℕ) (m : ℕ) (k : Renumbers g h number m) where
  abbrev Reached : ℕ → Type 0
  Reached x = IsReached g m x

  abbrev of_pair : Pair → Pair
  of_pair p = pair_of (number p.home.0) p.name

  abbrev of_id : ModuleId → ModuleId
  of_id x = module_id (number x.0)

  abbrev of_export : Export → Export
  of_export (exports.End x b) = exports.End (of_id x) b
  of_export (exports.Other p) = exports.Other (of_pair p)

  abbrev of_end : End → End
  of_end e = (of_id e.0, e.1)

  -- ---- one step

  locals_follow : (x : ℕ) (es : List LocalExport) (name : List ℕ) → local_export (number x) es name ≡ option_map of_export (local_export x es name)
  locals_follow x [] name = refl
  locals_follow x (e ∷ es) name = by (bytes_eq e.name name) (locals_follow x es name)
    where
      by : (b : Bool) → local_export (number x) es name ≡ option_map of_export (local_export x es name)
          → cond b (Some (exports.End (module_id (number x)) (bindings.Local e.local))) (local_export (number x) es name) ≡ option_map of_export (cond b (Some (exports.End (module_id x) (bindings.Local e.local))) (local_export x es name))
      by true rest = refl
      by false rest = rest

  wanted_follows : (to : ℕ) (w : Wanted) → wanted_of (number to) w ≡ of_export (wanted_of to w)
  wanted_follows to wanted.Whole = refl
  wanted_follows to (wanted.Named name) = refl

  indirects_follow : (to other : ℕ → ℕ) (es : List IndirectExport) (name : List ℕ) → ((e : IndirectExport) → Contains es e → other e.request ≡ number (to e.request)) → indirect_export other es name ≡ option_map of_export (indirect_export to es name)
  indirects_follow to other [] name same = refl
  indirects_follow to other (e ∷ es) name same = by (bytes_eq e.name name) (indirects_follow to other es name (λ d c. same d (Contains-tail e es d c)))
    where
      first : wanted_of (other e.request) e.wanted ≡ of_export (wanted_of (to e.request) e.wanted)
      first = ap (λ n. wanted_of n e.wanted) (same e (Contains-head e es)) ∙ wanted_follows (to e.request) e.wanted

      by : (b : Bool) → indirect_export other es name ≡ option_map of_export (indirect_export to es name)
          → cond b (Some (wanted_of (other e.request) e.wanted)) (indirect_export other es name) ≡ option_map of_export (cond b (Some (wanted_of (to e.request) e.wanted)) (indirect_export to es name))
      by true rest = ap (λ x. Some x) first
      by false rest = rest

  export_follows : (p : Pair) → Reached p.home.0 → export_of h (of_pair p) ≡ option_map of_export (export_of g p)
  export_follows p r =
      ap (λ (es : EntryLists). option_or (local_export (number p.home.0) es.locals p.name) (indirect_export (h.target (number p.home.0)) es.indirects p.name)) (k.entries p.home.0 r)
      ∙ (λ i. option_or (locals_follow p.home.0 (g.entries p.home.0).locals p.name i) (indirects_follow (g.target p.home.0) (h.target (number p.home.0)) (g.entries p.home.0).indirects p.name (λ e c. k.by_name p.home.0 e r c) i))
      ∙ either of_export (local_export p.home.0 (g.entries p.home.0).locals p.name) (indirect_export (g.target p.home.0) (g.entries p.home.0).indirects p.name)

  stars_follow : (p : Pair) → Reached p.home.0 → star_pairs h (of_pair p) ≡ map of_pair (star_pairs g p)
  stars_follow p r = by (bytes_eq p.name (codes "default"))
    where
      each : map (λ star. pair_of (h.target (number p.home.0) star) p.name) (h.entries (number p.home.0)).stars ≡ map of_pair (map (λ star. pair_of (g.target p.home.0 star) p.name) (g.entries p.home.0).stars)
      each =
          ap (λ (es : EntryLists). map (λ star. pair_of (h.target (number p.home.0) star) p.name) es.stars) (k.entries p.home.0 r)
          ∙ map_on (λ star. pair_of (h.target (number p.home.0) star) p.name) (λ star. of_pair (pair_of (g.target p.home.0 star) p.name)) (g.entries p.home.0).stars (λ star c. ap (λ n. pair_of n p.name) (k.by_star p.home.0 star r c))
          ∙ sym (map_twice (λ star. pair_of (g.target p.home.0 star) p.name) of_pair (g.entries p.home.0).stars)

      by : (b : Bool) → cond b [] (map (λ star. pair_of (h.target (number p.home.0) star) p.name) (h.entries (number p.home.0)).stars) ≡ map of_pair (cond b [] (map (λ star. pair_of (g.target p.home.0 star) p.name) (g.entries p.home.0).stars))
      by true = refl
      by false = each

  next_by_follows : (e : Option Export) (stars : List Pair) → next_by (option_map of_export e) (map of_pair stars) ≡ map of_pair (next_by e stars)
  next_by_follows None stars = refl
  next_by_follows (Some (exports.End x b)) stars = refl
  next_by_follows (Some (exports.Other p)) stars = refl

  next_follows : (p : Pair) → Reached p.home.0 → next_of h (of_pair p) ≡ map of_pair (next_of g p)
  next_follows p r = (λ i. next_by (export_follows p r i) (stars_follow p r i)) ∙ next_by_follows (export_of g p) (star_pairs g p)

  end_by_follows : (e : Option Export) → end_by (option_map of_export e) ≡ option_map of_end (end_by e)
  end_by_follows None = refl
  end_by_follows (Some (exports.End x b)) = refl
  end_by_follows (Some (exports.Other p)) = refl

  end_follows : (p : Pair) → Reached p.home.0 → end_of h (of_pair p) ≡ option_map of_end (end_of g p)
  end_follows p r = ap end_by (export_follows p r) ∙ end_by_follows (export_of g p)

  -- ---- what is reached

  module _ (name : List ℕ) where
    abbrev from : Pair
    from = pair_of m name

    reached_home : {p : Pair} → Reaches g from p → Reached p.home.0
    reached_home Reaches.itself = IsReached.itself
    reached_home {p = q} (Reaches.onward {p = p} r c) = by (reached_home r) (next_cases g p q c)
      where
        by : Reached p.home.0 → IsWanted g p q ⊎ IsBehindStar g p q → Reached q.home.0
        by x (inl w) = subst (IsReached g m) (sym w.home) (IsReached.by_name x w.stands)
        by x (inr s) = subst (IsReached g m) (sym s.home) (IsReached.by_star x s.stands)

    forward : {p : Pair} → Reaches g from p → Reaches h (of_pair from) (of_pair p)
    forward Reaches.itself = Reaches.itself
    forward (Reaches.onward {p = p} {q = q} r c) = Reaches.onward (forward r) (subst (λ ps. Contains ps (of_pair q)) (sym (next_follows p (reached_home r))) (Contains-map of_pair (next_of g p) q c))

    abbrev Back : Pair → Type 0
    Back q = (p : Pair) × Reaches g from p × (q ≡ of_pair p)

    backward : {q : Pair} → Reaches h (of_pair from) q → Back q
    backward Reaches.itself = (from, Reaches.itself, refl)
    backward (Reaches.onward {p = q} {q = s} r c) = by (backward r)
      where
        by : Back q → Back s
        by b =
            let c' : Contains (map of_pair (next_of g b.0)) s = subst (λ ps. Contains ps s) (next_follows b.0 (reached_home b.1)) (subst (λ p. Contains (next_of h p) s) b.2 c) in
            let d = Contains-map_cases of_pair (next_of g b.0) s c' in
            (d.0, Reaches.onward b.1 d.1, d.2)

    leads_forward : (e : End) → LeadsTo g from e → LeadsTo h (of_pair from) (of_end e)
    leads_forward e l = (of_pair l.0, forward l.1, end_follows l.0 (reached_home l.1) ∙ ap (option_map of_end) l.2)

    abbrev Led : End → Type 0
    Led d = (e : End) × LeadsTo g from e × (d ≡ of_end e)

    leads_backward : (d : End) → LeadsTo h (of_pair from) d → Led d
    leads_backward d l = by (backward l.1)
      where
        ends : (p : Pair) → Reaches g from p → (o : Option End) → end_of g p ≡ o → option_map of_end o ≡ Some d → Led d
        ends p r None is e = cc
        ends p r (Some x) is e = let same : of_end x ≡ d = cc in (x, (p, r, is), sym same)

        by : Back l.0 → Led d
        by b = ends b.0 b.1 (end_of g b.0) refl (sym (end_follows b.0 (reached_home b.1)) ∙ ap (end_of h) (sym b.2) ∙ l.2)

    -- ---- ends lie in modules that are reached

    local_home : (x : ℕ) (es : List LocalExport) (n : List ℕ) (y : ModuleId) (b : Binding) → local_export x es n ≡ Some (exports.End y b) → y.0 ≡ x
    local_home x [] n y b e = cc
    local_home x (l ∷ es) n y b e = by (bytes_eq l.name n) e (local_home x es n y b)
      where
        by : (c : Bool) → cond c (Some (exports.End (module_id x) (bindings.Local l.local))) (local_export x es n) ≡ Some (exports.End y b) → (local_export x es n ≡ Some (exports.End y b) → y.0 ≡ x) → y.0 ≡ x
        by true e rest = let same : module_id x ≡ y = cc in sym (ap (λ (z : ModuleId). z.0) same)
        by false e rest = rest e

    wanted_home : (to : ℕ) (w : Wanted) (y : ModuleId) (b : Binding) → wanted_of to w ≡ exports.End y b → y.0 ≡ to
    wanted_home to wanted.Whole y b e = let same : module_id to ≡ y = cc in sym (ap (λ (z : ModuleId). z.0) same)
    wanted_home to (wanted.Named n) y b e = cc

    indirect_home : (to : ℕ → ℕ) (es : List IndirectExport) (n : List ℕ) (y : ModuleId) (b : Binding) → indirect_export to es n ≡ Some (exports.End y b) → (e : IndirectExport) × Contains es e × (y.0 ≡ to e.request)
    indirect_home to [] n y b e = cc
    indirect_home to (i ∷ es) n y b e = by (bytes_eq i.name n) e (indirect_home to es n y b)
      where
        by : (c : Bool) → cond c (Some (wanted_of (to i.request) i.wanted)) (indirect_export to es n) ≡ Some (exports.End y b)
            → (indirect_export to es n ≡ Some (exports.End y b) → (e : IndirectExport) × Contains es e × (y.0 ≡ to e.request)) → (e : IndirectExport) × Contains (i ∷ es) e × (y.0 ≡ to e.request)
        by true e rest = (i, Contains-head i es, wanted_home (to i.request) i.wanted y b (let same : wanted_of (to i.request) i.wanted ≡ exports.End y b = cc in same))
        by false e rest = let r = rest e in (r.0, Contains-tail i es r.0 r.1, r.2)

    export_home : (p : Pair) → Reached p.home.0 → (y : ModuleId) (b : Binding) → export_of g p ≡ Some (exports.End y b) → Reached y.0
    export_home p r y b e = by (local_export p.home.0 (g.entries p.home.0).locals p.name) refl e
      where
        by : (o : Option Export) → local_export p.home.0 (g.entries p.home.0).locals p.name ≡ o → option_or o (indirect_export (g.target p.home.0) (g.entries p.home.0).indirects p.name) ≡ Some (exports.End y b) → Reached y.0
        by None is e = let i = indirect_home (g.target p.home.0) (g.entries p.home.0).indirects p.name y b e in subst (IsReached g m) (sym i.2) (IsReached.by_name r i.1)
        by (Some x) is e = subst (IsReached g m) (sym (local_home p.home.0 (g.entries p.home.0).locals p.name y b (is ∙ e))) r

    pub end_home : (e : End) → LeadsTo g from e → Reached e.0.0
    end_home e l = by (export_of g l.0) refl l.2
      where
        by : (o : Option Export) → export_of g l.0 ≡ o → end_by o ≡ Some e → Reached e.0.0
        by None is f = cc
        by (Some (exports.End x b)) is f = let same : (x, b) ≡ e = cc in subst (λ (d : End). Reached d.0.0) same (export_home l.0 (reached_home l.1) x b is)
        by (Some (exports.Other p)) is f = cc

    ends_apart : (d e : End) → LeadsTo g from d → LeadsTo g from e → of_end d ≡ of_end e → d ≡ e
    ends_apart d e l r f =
        let home : d.0.0 ≡ e.0.0 = k.apart d.0.0 e.0.0 (end_home d l) (end_home e r) (ap (λ (x : End). x.0.0) f) in
        λ i. (record { 0 = home i }, ap (λ (x : End). x.1) f i)

    pub resolution_follows : (r : Resolution) → IsResolutionOf g from r → IsResolutionOf h (of_pair from) (renumbered number r)
    resolution_follows resolutions.Missing p = λ d l. let b = leads_backward d l in p b.0 b.1
    resolution_follows (resolutions.One x b) p = (leads_forward (x, b) p.0, λ d l. let e = leads_backward d l in e.2 ∙ ap of_end (p.1 e.0 e.1))
    resolution_follows resolutions.Ambiguous p = (of_end p.0, of_end p.1, leads_forward p.0 p.2, leads_forward p.1 p.3, λ f. p.4 (ends_apart p.0 p.1 p.2 p.3 f))

  -- ---- names

  abbrev AllReached : List ℕ → Type 0
  AllReached xs = (x : ℕ) → Contains xs x → Reached x

  same_number : (x y : ℕ) → Reached x → Reached y → nat_eq (number x) (number y) ≡ nat_eq x y
  same_number x y r s = by (nat_eq x y) refl (nat_eq (number x) (number y)) refl
    where
      by : (b : Bool) → nat_eq x y ≡ b → (c : Bool) → nat_eq (number x) (number y) ≡ c → c ≡ b
      by true e true f = refl
      by true e false f = absurd (bool_not (nat_eq (number x) (number y)) (eq-eqb _ _ (ap number (eqb-true _ _ e))) f)
      by false e true f = absurd (bool_not (nat_eq x y) (eq-eqb _ _ (k.apart x y r s (eqb-true _ _ f))) e)
      by false e false f = refl

  in_follows : (xs : List ℕ) (x : ℕ) → AllReached xs → Reached x → is_in nat_eq (map number xs) (number x) ≡ is_in nat_eq xs x
  in_follows [] x a r = refl
  in_follows (y ∷ ys) x a r = λ i. same_number x y r (a y (Contains-head y ys)) i || in_follows ys x (λ z c. a z (Contains-tail y ys z c)) r i

  targets_follow : (x : ℕ) → Reached x → star_targets h (number x) ≡ map number (star_targets g x)
  targets_follow x r =
      ap (λ (es : EntryLists). map (h.target (number x)) es.stars) (k.entries x r)
      ∙ map_on (h.target (number x)) (λ s. number (g.target x s)) (g.entries x).stars (λ s c. k.by_star x s r c)
      ∙ sym (map_twice (g.target x) number (g.entries x).stars)

  targets_reached : (x : ℕ) → Reached x → AllReached (star_targets g x)
  targets_reached x r y c = let d = Contains-map_cases (g.target x) (g.entries x).stars y c in subst (IsReached g m) (sym d.2) (IsReached.by_star r d.1)

  push_reached : (xs : List ℕ) (x : ℕ) → AllReached xs → Reached x → AllReached (xs ++ x ∷ [])
  push_reached [] x a r = λ y c. subst (IsReached g m) (Contains-one x y c) r
  push_reached (z ∷ zs) x a r = λ y c. by y (push_reached zs x (λ w d. a w (Contains-tail z zs w d)) r) (Contains-cons_cases z (zs ++ x ∷ []) y c)
    where
      by : (y : ℕ) → AllReached (zs ++ x ∷ []) → (z ≡ y) ⊎ Contains (zs ++ x ∷ []) y → Reached y
      by y rest (inl e) = subst (IsReached g m) e (a z (Contains-head z zs))
      by y rest (inr c) = rest y c

  record Walked (reached order : List ℕ) (P : List ℕ → List ℕ → Type 0) : Type 0 where
    all : AllReached order
    walk : P (map number reached) (map number order)

  mutual
    walk_follows : {reached order : List ℕ} {x : ℕ} → StarWalk g reached x order → AllReached reached → Reached x → Walked reached order (λ seen after. StarWalk h seen (number x) after)
    walk_follows {reached} {x = x} (StarWalk.known e) a r = record { all = a; walk = StarWalk.known (in_follows reached x a r ∙ e) }
    walk_follows {reached} {order} {x} (StarWalk.fresh e p) a r =
        let w = walks_follow p (push_reached reached x a r) (targets_reached x r) in
        record {
          all = w.all;
          walk = StarWalk.fresh (in_follows reached x a r ∙ e)
              (subst (λ seen. StarWalks h seen (star_targets h (number x)) (map number order)) (map-append number reached (x ∷ []))
              (subst (λ ts. StarWalks h (map number (reached ++ x ∷ [])) ts (map number order)) (sym (targets_follow x r)) w.walk));
        }

    walks_follow : {reached order xs : List ℕ} → StarWalks g reached xs order → AllReached reached → AllReached xs → Walked reached order (λ seen after. StarWalks h seen (map number xs) after)
    walks_follow StarWalks.all a b = record { all = a; walk = StarWalks.all }
    walks_follow (StarWalks.next {x = x} {xs = xs} p q) a b =
        let first = walk_follows p a (b x (Contains-head x xs)) in
        let rest = walks_follow q first.all (λ y c. b y (Contains-tail x xs y c)) in
        record { all = rest.all; walk = StarWalks.next first.walk rest.walk }

  along_follows : (order : List ℕ) → AllReached order → names_along h (number m) (map number order) ≡ names_along g m order
  along_follows [] a = refl
  along_follows (x ∷ xs) a =
      let r = a x (Contains-head x xs) in
      λ i. filter (is_passed_on (same_number x m r IsReached.itself i)) (own_names (k.entries x r i)) ++ along_follows xs (λ y c. a y (Contains-tail x xs y c)) i

  pub names_follow : (names : List (List ℕ)) → AreExportedNamesOf g m names → AreExportedNamesOf h (number m) names
  names_follow names p =
      let w = walk_follows p.1 (λ x c. absurd (Contains-none x c)) IsReached.itself in
      (map number p.0, w.walk, p.2 ∙ ap first_of_each (sym (along_follows p.0 w.all)))

  -- ---- keys

  one_follows : (r : Resolution) → is_one (renumbered number r) ≡ is_one r
  one_follows resolutions.Missing = refl
  one_follows (resolutions.One x b) = refl
  one_follows resolutions.Ambiguous = refl

  keeps_follow : {names keys : List (List ℕ)} → KeepsResolved g m names keys → KeepsResolved h (number m) names keys
  keeps_follow KeepsResolved.none = KeepsResolved.none
  keeps_follow (KeepsResolved.kept {name = name} r p e rest) = KeepsResolved.kept (renumbered number r) (resolution_follows name r p) (one_follows r ∙ e) (keeps_follow rest)
  keeps_follow (KeepsResolved.dropped {name = name} r p e rest) = KeepsResolved.dropped (renumbered number r) (resolution_follows name r p) (one_follows r ∙ e) (keeps_follow rest)

  pub keys_follow : (keys : List (List ℕ)) → AreNamespaceKeysOf g m keys → AreNamespaceKeysOf h (number m) keys
  keys_follow keys p = record { names = p.names; resolved = p.resolved; exported = names_follow p.names p.exported; kept = keeps_follow p.kept; same = p.same; in_order = p.in_order }

pub follows_numbers : FollowsNumbers
follows_numbers = record {
  resolution = λ g h number m name r k p. resolution_follows g h number m k name r p;
  names = λ g h number m names k p. names_follow g h number m k names p;
  keys = λ g h number m keys k p. keys_follow g h number m k keys p;
}
