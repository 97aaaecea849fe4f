-- That something leads to each ask ahead, as a history grows.
use Rattle.std.proofs.Common.{◌≡◌, ℕ, ◌==◌, Bool, true, false, cond, nat_lt, List, [], ◌∷◌, ◌++◌, length, sym, refl, ap, ◌∙◌, subst, Option, Some, None, append_assoc, append-nil}
use Rattle.std.specs.Arc.{arc_value}
use Rattle.esm_hlock.specs.Views.{longer}
use Rattle.esm_base.specs.Urls.{Url}
use Rattle.esm_module_map.specs.declared.event.Why.{Why}
use Rattle.esm_module_map.specs.declared.event.Why.TheVariants.{Wanted, Ahead}
use Rattle.esm_module_map.specs.declared.event.MapEvent.{MapEvent}
use Rattle.esm_module_map.specs.declared.event.MapEvent.TheVariants.{Begin, Enrol, Ask, Take, Post, Shut}
use Rattle.esm_module_map.specs.Replay.{maker_of}
use Rattle.esm_module_map.specs.Replies.{ContinuesFor}
use Rattle.esm_module_map.specs.Leading.{guide_in, url_in, payload_in, leads_by, leads_to, may_lead, is_led_from, is_led}
use Rattle.esm_module_map.proofs.Replays.{both_true, true_both}

-- what is found first stays
found_cond : {A : Type 0} (b : Bool) (a x : A) (r s : Option A) → (r ≡ Some x → s ≡ Some x) → cond b (Some a) r ≡ Some x → cond b (Some a) s ≡ Some x
found_cond true a x r s later is = is
found_cond false a x r s later is = later is

module _ {P G : Type 0} where
  pub guide_stays : (xs ys : List (MapEvent P G)) (g : G) → guide_in xs ≡ Some g → guide_in (xs ++ ys) ≡ Some g
  guide_stays [] ys g is = cc
  guide_stays (Begin h ∷ es) ys g is = is
  guide_stays (Enrol c ∷ es) ys g is = guide_stays es ys g is
  guide_stays (Ask c n u why ∷ es) ys g is = guide_stays es ys g is
  guide_stays (Take c n ∷ es) ys g is = guide_stays es ys g is
  guide_stays (Post c n p ∷ es) ys g is = guide_stays es ys g is
  guide_stays (Shut c ∷ es) ys g is = guide_stays es ys g is

  url_stays : (k : ℕ) (xs ys : List (MapEvent P G)) (x : Url) → url_in k xs ≡ Some x → url_in k (xs ++ ys) ≡ Some x
  url_stays k [] ys x is = cc
  url_stays k (Begin h ∷ es) ys x is = url_stays k es ys x is
  url_stays k (Enrol c ∷ es) ys x is = url_stays k es ys x is
  url_stays k (Ask c n u why ∷ es) ys x is = found_cond (n == k) u x (url_in k es) (url_in k (es ++ ys)) (url_stays k es ys x) is
  url_stays k (Take c n ∷ es) ys x is = url_stays k es ys x is
  url_stays k (Post c n p ∷ es) ys x is = url_stays k es ys x is
  url_stays k (Shut c ∷ es) ys x is = url_stays k es ys x is

  payload_stays : (k : ℕ) (xs ys : List (MapEvent P G)) (x : P) → payload_in k xs ≡ Some x → payload_in k (xs ++ ys) ≡ Some x
  payload_stays k [] ys x is = cc
  payload_stays k (Begin h ∷ es) ys x is = payload_stays k es ys x is
  payload_stays k (Enrol c ∷ es) ys x is = payload_stays k es ys x is
  payload_stays k (Ask c n u why ∷ es) ys x is = payload_stays k es ys x is
  payload_stays k (Take c n ∷ es) ys x is = payload_stays k es ys x is
  payload_stays k (Post c n p ∷ es) ys x is = found_cond (n == k) (arc_value p) x (payload_in k es) (payload_in k (es ++ ys)) (payload_stays k es ys x) is
  payload_stays k (Shut c ∷ es) ys x is = payload_stays k es ys x is

  module _ (leads : G → P → Url → Url → Bool) where
    -- what leads to a URL still does in a longer history
    leads_longer : (xs ys : List (MapEvent P G)) (why : Why) (u : Url) → leads_to leads xs why u ≡ true → leads_to leads (xs ++ ys) why u ≡ true
    leads_longer xs ys Wanted u is = refl
    leads_longer xs ys (Ahead k) u is = by_three (guide_in xs) (payload_in k xs) (url_in k xs) refl refl refl is
      where
        by_three : (a : Option G) (b : Option P) (d : Option Url) → guide_in xs ≡ a → payload_in k xs ≡ b → url_in k xs ≡ d → leads_by leads a b d u ≡ true
            → leads_by leads (guide_in (xs ++ ys)) (payload_in k (xs ++ ys)) (url_in k (xs ++ ys)) u ≡ true
        by_three (Some g) (Some p) (Some from) e f h is =
            ap (λ a. leads_by leads a (payload_in k (xs ++ ys)) (url_in k (xs ++ ys)) u) (guide_stays xs ys g e)
            ∙ ap (λ b. leads_by leads (Some g) b (url_in k (xs ++ ys)) u) (payload_stays k xs ys p f)
            ∙ ap (λ d. leads_by leads (Some g) (Some p) d u) (url_stays k xs ys from h) ∙ is
        by_three (Some g) (Some p) None e f h is = cc
        by_three (Some g) None d e f h is = cc
        by_three None b d e f h is = cc

    pub leads_found : (seen found : List (MapEvent P G)) (n : Option ℕ) (why : Why) (u : Url) → ContinuesFor maker_of found seen n → leads_to leads seen why u ≡ true → leads_to leads found why u ≡ true
    leads_found seen found n why u q is = subst (λ h. leads_to leads h why u ≡ true) (sym q.1) (leads_longer seen q.0 why u is)

    led_more : (past es : List (MapEvent P G)) (e : MapEvent P G) → is_led_from leads past es ≡ true → may_lead leads (past ++ es) e ≡ true → is_led_from leads past (es ++ e ∷ []) ≡ true
    led_more past [] e ok may = true_both (may_lead leads past e) true (subst (λ h. may_lead leads h e ≡ true) (append-nil past) may) refl
    led_more past (x ∷ es) e ok may = let h = both_true (may_lead leads past x) (is_led_from leads (past ++ x ∷ []) es) ok in
        true_both (may_lead leads past x) (is_led_from leads (past ++ x ∷ []) (es ++ e ∷ [])) h.0
        (led_more (past ++ x ∷ []) es e h.1 (subst (λ h. may_lead leads h e ≡ true) (sym (append_assoc past (x ∷ []) es)) may))

    -- one event more
    pub led_with : (es es1 now : List (MapEvent P G)) (e : MapEvent P G) → es1 ≡ es → now ≡ es1 ++ e ∷ [] → is_led leads es ≡ true → may_lead leads es e ≡ true → is_led leads now ≡ true
    led_with es es1 now e kept more ok may = ap (is_led leads) (more ∙ ap (λ (l : List (MapEvent P G)). l ++ e ∷ []) kept) ∙ led_more [] es e ok may

    -- an ask for a copy of the URL
    pub led_ask : (es es1 now : List (MapEvent P G)) (c n : ℕ) (u v : Url) (why : Why) → es1 ≡ es → now ≡ es1 ++ Ask c n u why ∷ [] → is_led leads es ≡ true → u ≡ v → leads_to leads es why v ≡ true → is_led leads now ≡ true
    led_ask es es1 now c n u v why kept more ok same may = led_with es es1 now (Ask c n u why) kept more ok (subst (λ x. leads_to leads es why x ≡ true) (sym same) may)

    pub longer_led : (xs ys : List (MapEvent P G)) → is_led leads xs ≡ true → is_led leads ys ≡ true → is_led leads (longer xs ys) ≡ true
    longer_led xs ys a b = by_test (nat_lt (length xs) (length ys))
      where
        by_test : (t : Bool) → is_led leads (cond t ys xs) ≡ true
        by_test true = b
        by_test false = a
