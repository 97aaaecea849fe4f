-- A search that stops at pairs of which an end is kept meets the ends that the whole search meets.
use Rattle.std.proofs.Common.{◌≡◌, Bool, true, false, cond, [], ◌∷◌, ◌⊎◌, inl, inr, Contains, Option, None, Some, is_some, refl, sym, ap, subst, ◌∙◌}
use Rattle.std.specs.BTreeMap as map
use Rattle.std.specs.BTreeMap.{BTreeMap}
use Rattle.esm_base.specs.declared.module_id.ModuleId.{ModuleId}
use Rattle.esm_resolve.specs.declared.graph.Binding.{Binding}
use Rattle.esm_resolve.specs.declared.graph.Resolution.TheVariants.{One}
use Rattle.esm_resolve.specs.declared.pair.Export.{Export}
use Rattle.esm_resolve.specs.declared.pair.Export.TheVariants as exports
use Rattle.esm_resolve.specs.declared.pair.Pair.{Pair}
use Rattle.esm_resolve.specs.Graph.{Graph}
use Rattle.esm_resolve.specs.Index.{AreEnds}
use Rattle.esm_resolve.specs.Pairs.{pair_eq, pair_cmp}
use Rattle.esm_resolve.specs.Resolution.{End, export_of, end_by, end_of, next_by, next_of, star_pairs, Reaches, LeadsTo, IsResolutionOf}
use Rattle.esm_resolve.specs.Inner.Index.{PutsEnd}
use Rattle.esm_resolve.specs.Inner.Search.{end_or, end_met, steps_of, other_by}
use Rattle.esm_resolve.proofs.Search.Candidates.{pair_eq_same}
use Rattle.esm_resolve.proofs.Members.{Contains-none, Contains-head, Contains-one}

pub reach_on : (g : Graph) {p q r : Pair} → Reaches g p q → Reaches g q r → Reaches g p r
reach_on g first Reaches.itself = first
reach_on g first (Reaches.onward rest c) = Reaches.onward (reach_on g first rest) c

pub lead_on : (g : Graph) {p q : Pair} {e : End} → Reaches g p q → LeadsTo g q e → LeadsTo g p e
lead_on g first l = (l.0, reach_on g first l.1, l.2)

-- ---- ends that are kept

module _ (g : Graph) (kept : Pair → Option End) where
  abbrev AreRight : Type 0
  AreRight = (p : Pair) (e : End) → kept p ≡ Some e → IsResolutionOf g p (One e.0 e.1)

  pub steps_next : (p q : Pair) → Contains (steps_of g kept p) q → Contains (next_of g p) q
  steps_next p q c = by (kept p) c
    where
      by : (d : Option End) → Contains (next_by (end_or d (export_of g p)) (star_pairs g p)) q → Contains (next_of g p) q
      by None k = k
      by (Some d) k = absurd (Contains-none q k)

  pub covered_steps : (p q : Pair) → kept p ≡ None → Contains (next_of g p) q → Contains (steps_of g kept p) q
  covered_steps p q none c = subst (λ d. Contains (next_by (end_or d (export_of g p)) (star_pairs g p)) q) (sym none) c

  module _ (right : AreRight) where
    -- an end that is met is one that the pair leads to
    pub met_leads : (p : Pair) (e : End) → end_met g kept p ≡ Some e → LeadsTo g p e
    met_leads p e is = by (kept p) refl is
      where
        by : (d : Option End) → kept p ≡ d → end_by (end_or d (export_of g p)) ≡ Some e → LeadsTo g p e
        by None none k = (p, Reaches.itself, k)
        by (Some d) some k = let same : d ≡ e = cc in subst (λ f. LeadsTo g p f) same (right p d some).0

    -- the one that is kept is the only one
    pub end_leads : (p : Pair) (d e : End) → kept p ≡ Some d → LeadsTo g p e → end_met g kept p ≡ Some e
    end_leads p d e some l = ap (λ f. end_by (end_or f (export_of g p))) some ∙ ap (λ f. Some f) (sym ((right p d some).1 e l))

    pub met_end : (p : Pair) (e : End) → end_of g p ≡ Some e → end_met g kept p ≡ Some e
    met_end p e is = by (kept p) refl
      where
        by : (d : Option End) → kept p ≡ d → end_met g kept p ≡ Some e
        by None none = ap (λ f. end_by (end_or f (export_of g p))) none ∙ is
        by (Some d) some = end_leads p d e some (p, Reaches.itself, is)

-- ---- what is kept

pub kept_more : (g : Graph) (p : Pair) (d : End) (old new : BTreeMap Pair End) → PutsEnd p d old new → AreEnds g old → IsResolutionOf g p (One d.0 d.1) → AreEnds g new
kept_more g p d old new puts right now q e is = by (pair_eq p q) refl (sym (puts q) ∙ is)
  where
    by : (b : Bool) → pair_eq p q ≡ b → cond b (Some d) (map.get pair_cmp old q) ≡ Some e → IsResolutionOf g q (One e.0 e.1)
    by true same k =
        let own : d ≡ e = cc in
        subst (λ r. IsResolutionOf g r (One e.0 e.1)) (pair_eq_same p q same) (subst (λ (f : End). IsResolutionOf g p (One f.0 f.1)) own now)
    by false apart k = right q e k

pub has_more : (p : Pair) (d : End) (old new : BTreeMap Pair End) → PutsEnd p d old new → (q : Pair) → is_some (map.get pair_cmp new q) ≡ cond (pair_eq p q) true (is_some (map.get pair_cmp old q))
has_more p d old new puts q = ap (λ o. is_some o) (puts q) ∙ by (pair_eq p q)
  where
    by : (b : Bool) → is_some (cond b (Some d) (map.get pair_cmp old q)) ≡ cond b true (is_some (map.get pair_cmp old q))
    by true = refl
    by false = refl

-- ---- a pair that leads to another by name alone

pub named_by : (e : Option Export) (q : Pair) → other_by e ≡ Some q → e ≡ Some (exports.Other q)
named_by None q is = absurd (cc)
named_by (Some (exports.End x b)) q is = absurd (cc)
named_by (Some (exports.Other p)) q is = let same : p ≡ q = cc in ap (λ r. Some (exports.Other r)) same

module _ (g : Graph) (p q : Pair) (named : export_of g p ≡ Some (exports.Other q)) where
  only : next_of g p ≡ q ∷ []
  only = ap (λ e. next_by e (star_pairs g p)) named

  pub named_next : Contains (next_of g p) q
  named_next = subst (λ l. Contains l q) (sym only) (Contains-head q [])

  behind : {r : Pair} → Reaches g p r → (p ≡ r) ⊎ Reaches g q r
  behind Reaches.itself = inl refl
  behind {r = t} (Reaches.onward {p = s} r c) = by (behind r)
    where
      by : (p ≡ s) ⊎ Reaches g q s → (p ≡ t) ⊎ Reaches g q t
      by (inl own) = inr (subst (λ z. Reaches g q z) (Contains-one q t (subst (λ l. Contains l t) only (subst (λ z. Contains (next_of g z) t) (sym own) c))) Reaches.itself)
      by (inr k) = inr (Reaches.onward k c)

  back : {e : End} → LeadsTo g p e → LeadsTo g q e
  back {e = e} l = by (behind l.1)
    where
      none : end_of g p ≡ None
      none = ap end_by named

      by : (p ≡ l.0) ⊎ Reaches g q l.0 → LeadsTo g q e
      by (inl own) = let some : end_of g p ≡ Some e = subst (λ z. end_of g z ≡ Some e) (sym own) l.2 in absurd (cc)
      by (inr k) = (l.0, k, l.2)

  -- denotes what the other denotes
  pub named_denotes : (x : ModuleId) (b : Binding) → IsResolutionOf g p (One x b) → IsResolutionOf g q (One x b)
  named_denotes x b r = (back r.0, λ e l. r.1 e (lead_on g (Reaches.onward Reaches.itself named_next) l))

-- a pair that ends by itself denotes that end
pub end_denotes : (g : Graph) (p : Pair) (x : ModuleId) (b : Binding) → end_of g p ≡ Some (x, b) → IsResolutionOf g p (One x b)
end_denotes g p x b is = ((p, Reaches.itself, is), λ e l. only_end e l)
  where
    nothing : (e : Option Export) → export_of g p ≡ e → end_by e ≡ Some (x, b) → next_of g p ≡ []
    nothing None has k = absurd (cc)
    nothing (Some (exports.Other q)) has k = absurd (cc)
    nothing (Some (exports.End y c)) has k = ap (λ z. next_by z (star_pairs g p)) has

    stays : {r : Pair} → Reaches g p r → p ≡ r
    stays Reaches.itself = refl
    stays {r = t} (Reaches.onward {p = s} r c) = absurd (Contains-none t (subst (λ l. Contains l t) (nothing (export_of g p) refl is) (subst (λ z. Contains (next_of g z) t) (sym (stays r)) c)))

    only_end : (e : End) → LeadsTo g p e → e ≡ (x, b)
    only_end e l = let own : end_of g p ≡ Some e = subst (λ z. end_of g z ≡ Some e) (sym (stays l.1)) l.2 in let same : (x, b) ≡ e = cc in sym same
