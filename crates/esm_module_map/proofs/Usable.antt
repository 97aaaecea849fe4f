-- That the URLs of numbers may name modules.
use Rattle.std.proofs.Common.{◌≡◌, ◌⊎◌, inl, inr, ℕ, zero, suc, Bool, true, false, nat_lt, not, List, [], ◌∷◌, ◌++◌, subst, Some, slice_get}
use Rattle.esm_base.specs.Urls.{Url, is_usable}
use Rattle.esm_module_map.specs.declared.event.MapEvent.{MapEvent}
use Rattle.esm_module_map.specs.declared.event.MapEvent.TheVariants.{Begin, Enrol, Ask, Take, Post, Shut}
use Rattle.esm_module_map.specs.Replay.{Replay, opening, asked_by, is_numbered, step, replay, replay_from, is_legal, is_legal_from, may_come}
use Rattle.esm_module_map.proofs.Replays.{both_true}

appended_url : (us : List Url) (v : Url) (m : ℕ) (u : Url) → slice_get (us ++ v ∷ []) m ≡ Some u → (slice_get us m ≡ Some u) ⊎ (v ≡ u)
appended_url [] v zero u at = inr (let same : v ≡ u = cc in same)
appended_url [] v (suc m) u at = inl at
appended_url (w ∷ us) v zero u at = inl at
appended_url (w ∷ us) v (suc m) u at = appended_url us v m u at

abbrev pub AreUsable : Replay → Type 0
AreUsable s = (n : ℕ) (u : Url) → slice_get s.urls n ≡ Some u → is_usable u ≡ true

module _ {P G : Type 0} (weight : P → ℕ) where
  usable_step : (s : Replay) (e : MapEvent P G) → may_come s e ≡ true → AreUsable s → AreUsable (step weight s e)
  usable_step s (Begin g) ok all = all
  usable_step s (Enrol c) ok all = all
  usable_step s (Ask c n v why) ok all = by_test (is_numbered s v)
    where
      usable : is_usable v ≡ true
      usable = (both_true (is_usable v) _ (both_true (not s.shut) _ (both_true (nat_lt c s.callers) _ ok).1).1).0

      either : (u : Url) (m : ℕ) → (slice_get s.urls m ≡ Some u) ⊎ (v ≡ u) → is_usable u ≡ true
      either u m (inl there) = all m u there
      either u m (inr same) = subst (λ x. is_usable x ≡ true) same usable

      by_test : (b : Bool) → AreUsable (asked_by b s n v why)
      by_test true = all
      by_test false = λ m u at. either u m (appended_url s.urls v m u at)
  usable_step s (Take c n) ok all = all
  usable_step s (Post c n p) ok all = all
  usable_step s (Shut c) ok all = all

  usable_from : (s : Replay) (es : List (MapEvent P G)) → is_legal_from weight s es ≡ true → AreUsable s → AreUsable (replay_from weight s es)
  usable_from s [] ok all = all
  usable_from s (e ∷ es) ok all = let h = both_true (may_come s e) (is_legal_from weight (step weight s e) es) ok in usable_from (step weight s e) es h.1 (usable_step s e h.0 all)

  pub urls_usable : (n : ℕ) (u : Url) (h : List (MapEvent P G)) → is_legal weight h ≡ true → slice_get (replay weight h).urls n ≡ Some u → is_usable u ≡ true
  urls_usable n u h ok at = usable_from opening h ok (λ m v none. cc) n u at
