-- That each post fits, as a history grows.
use Rattle.std.proofs.Common.{◌≡◌, ℕ, zero, suc, ◌<◌, ◌==◌, Bool, true, false, cond, nat_lt, List, [], ◌∷◌, ◌++◌, length, sym, refl, ap, ◌∙◌, subst, arith, Option, Some, None, slice_get, append_assoc, append-nil}
use Rattle.std.specs.Arc.{arc_value}
use Rattle.std.specs.declared.sync.Arc.{Arc}
use Rattle.std.specs.declared.alloc.Global.{Global}
use Rattle.esm_hlock.specs.Views.{longer}
use Rattle.esm_base.specs.Urls.{Url}
use Rattle.esm_module_map.specs.declared.event.MapEvent.{MapEvent}
use Rattle.esm_module_map.specs.declared.event.MapEvent.TheVariants.{Begin, Enrol, Ask, Take, Post, Shut}
use Rattle.esm_module_map.specs.Replay.{opening, replay, is_legal, may_come, maker_of}
use Rattle.esm_module_map.specs.Replies.{ContinuesFor}
use Rattle.esm_module_map.specs.Histories.{IsPostIn}
use Rattle.esm_module_map.specs.Leading.{guide_in}
use Rattle.esm_module_map.specs.Fitting.{FitsIn, fits_by, may_fit, are_fit_from, are_fit}
use Rattle.esm_module_map.proofs.Replays.{both_true, true_both, lt_from}
use Rattle.esm_module_map.proofs.Led.{guide_stays}
use Rattle.esm_module_map.proofs.Staying.{url_stays}

module _ {P G : Type 0} (weight : P → ℕ) where
  -- a legal history in which a caller has enrolled begins with its guide
  pub guide_there : (h : List (MapEvent P G)) → is_legal weight h ≡ true → 0 < (replay weight h).callers → (guide : G) × (guide_in h ≡ Some guide)
  guide_there [] ok some = absurd (omega (arith, some))
  guide_there (Begin g ∷ es) ok some = (arc_value g, refl)
  guide_there (Enrol c ∷ es) ok some = let none = (both_true (c == 0) (nat_lt 0 0) (both_true (may_come {P = P} {G = G} opening (Enrol c)) _ ok).0).1 in absurd (omega (arith, lt_from 0 0 none))
  guide_there (Ask c n u why ∷ es) ok some = let none = (both_true (nat_lt c 0) _ (both_true (may_come {P = P} {G = G} opening (Ask c n u why)) _ ok).0).0 in absurd (omega (arith, lt_from c 0 none))
  guide_there (Take c n ∷ es) ok some = let none = (both_true (nat_lt c 0) _ (both_true (may_come {P = P} {G = G} opening (Take c n)) _ ok).0).0 in absurd (omega (arith, lt_from c 0 none))
  guide_there (Post c n p ∷ es) ok some = let none = (both_true (nat_lt c 0) _ (both_true (may_come {P = P} {G = G} opening (Post c n p)) _ ok).0).0 in absurd (omega (arith, lt_from c 0 none))
  guide_there (Shut c ∷ es) ok some = let none = (both_true (nat_lt c 0) _ (both_true (may_come {P = P} {G = G} opening (Shut c)) _ ok).0).0 in absurd (omega (arith, lt_from c 0 none))

module _ {P G : Type 0} (weight : P → ℕ) (fits : G → P → Url → Bool) where
  -- what fits the URL of its number by what a caller had seen does so by what it finds
  pub fits_found : (c n : ℕ) (u : Url) (p : Arc P Global) (seen found : List (MapEvent P G)) → is_legal weight seen ≡ true → nat_lt c (replay weight seen).callers ≡ true → ContinuesFor maker_of found seen (Some c)
      → slice_get (replay weight seen).urls n ≡ Some u → FitsIn fits seen (arc_value p) u → may_fit weight fits found (Post c n p) ≡ true
  fits_found c n u p seen found ok enrolled q has fit =
      let g = guide_there weight seen ok (let less = lt_from c (replay weight seen).callers enrolled in omega (arith, less)) in
      ap (λ o. fits_by fits o (arc_value p) (slice_get (replay weight found).urls n)) (subst (λ h. guide_in h ≡ Some g.0) (sym q.1) (guide_stays seen q.0 g.0 g.1))
      ∙ ap (λ o. fits_by fits (Some g.0) (arc_value p) o) (url_stays weight n u seen found (q.0, q.1) has) ∙ fit g.0 g.1

  fit_more : (past es : List (MapEvent P G)) (e : MapEvent P G) → are_fit_from weight fits past es ≡ true → may_fit weight fits (past ++ es) e ≡ true → are_fit_from weight fits past (es ++ e ∷ []) ≡ true
  fit_more past [] e ok may = true_both (may_fit weight fits past e) true (subst (λ h. may_fit weight fits h e ≡ true) (append-nil past) may) refl
  fit_more past (x ∷ es) e ok may = let h = both_true (may_fit weight fits past x) (are_fit_from weight fits (past ++ x ∷ []) es) ok in
      true_both (may_fit weight fits past x) (are_fit_from weight fits (past ++ x ∷ []) (es ++ e ∷ [])) h.0
      (fit_more (past ++ x ∷ []) es e h.1 (subst (λ h. may_fit weight fits h e ≡ true) (sym (append_assoc past (x ∷ []) es)) may))

  -- one event more
  pub fit_with : (es es1 now : List (MapEvent P G)) (e : MapEvent P G) → es1 ≡ es → now ≡ es1 ++ e ∷ [] → are_fit weight fits es ≡ true → may_fit weight fits es e ≡ true → are_fit weight fits now ≡ true
  fit_with es es1 now e kept more ok may = ap (are_fit weight fits) (more ∙ ap (λ (l : List (MapEvent P G)). l ++ e ∷ []) kept) ∙ fit_more [] es e ok may

  pub longer_fit : (xs ys : List (MapEvent P G)) → are_fit weight fits xs ≡ true → are_fit weight fits ys ≡ true → are_fit weight fits (longer xs ys) ≡ true
  longer_fit xs ys a b = by_test (nat_lt (length xs) (length ys))
    where
      by_test : (t : Bool) → are_fit weight fits (cond t ys xs) ≡ true
      by_test true = b
      by_test false = a

  -- what is posted at a place fits by the whole history
  fit_at : (past es : List (MapEvent P G)) (k n c : ℕ) (q : Arc P Global) (u : Url) → are_fit_from weight fits past es ≡ true → slice_get (replay weight (past ++ es)).urls n ≡ Some u → slice_get es k ≡ Some (Post c n q) → FitsIn fits (past ++ es) (arc_value q) u
  fit_at past [] k n c q u ok has at = λ guide is. cc
  fit_at past (x ∷ es) zero n c q u ok has at = let same : x ≡ Post c n q = cc in
      by_both (guide_in past) (slice_get (replay weight past).urls n) refl refl (subst (λ e. may_fit weight fits past e ≡ true) same (both_true (may_fit weight fits past x) _ ok).0)
    where
      by_both : (a : Option G) (o : Option Url) → guide_in past ≡ a → slice_get (replay weight past).urls n ≡ o → fits_by fits a (arc_value q) o ≡ true → (guide : G) → guide_in (past ++ x ∷ es) ≡ Some guide → fits guide (arc_value q) u ≡ true
      by_both (Some g) (Some v) there at may guide is =
          let first : Some g ≡ Some guide = sym (guide_stays past (x ∷ es) g there) ∙ is in let one : g ≡ guide = cc in
          let second : Some v ≡ Some u = sym (url_stays weight n v past (past ++ x ∷ es) (x ∷ es, refl) at) ∙ has in let two : v ≡ u = cc in
          ap (λ h. fits h (arc_value q) u) (sym one) ∙ ap (λ w. fits g (arc_value q) w) (sym two) ∙ may
      by_both (Some g) None there at may guide is = cc
      by_both None o there at may guide is = cc
  fit_at past (x ∷ es) (suc k) n c q u ok has at =
      subst (λ h. FitsIn fits h (arc_value q) u) (append_assoc past (x ∷ []) es)
      (fit_at (past ++ x ∷ []) es k n c q u (both_true (may_fit weight fits past x) _ ok).1 (subst (λ h. slice_get (replay weight h).urls n ≡ Some u) (sym (append_assoc past (x ∷ []) es)) has) at)

  pub posts_fit : (n : ℕ) (u : Url) (p : P) (h : List (MapEvent P G)) → are_fit weight fits h ≡ true → slice_get (replay weight h).urls n ≡ Some u → IsPostIn h n p → FitsIn fits h p u
  posts_fit n u p h ok has (k, e, at, (c, q, is, same)) = subst (λ x. FitsIn fits h x u) same (fit_at [] h k n c q u ok has (at ∙ ap Some is))
