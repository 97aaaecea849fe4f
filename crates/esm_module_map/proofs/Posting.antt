-- What several posts in one turn come to.
use Rattle.std.proofs.Common.{◌≡◌, ◌≢◌, ℕ, ◌<◌, ◌||◌, Bool, true, false, nat_eq, List, [], ◌∷◌, ◌++◌, length, map, sym, refl, ap, ◌∙◌, subst, arith, append_assoc, append-nil, Some, slice_get, slice_index_or}
use Rattle.std.specs.Prelude.{All}
use Rattle.std.proofs.lemmas.List.Elements.{All-nil, All-cons, All-head, All-tail, All-weaker}
use Rattle.std.specs.Arc.{arc_value}
use Rattle.std.specs.declared.sync.Arc.{Arc}
use Rattle.std.specs.declared.alloc.Global.{Global}
use Rattle.esm_base.specs.Lists.{is_in}
use Rattle.esm_base.specs.Urls.{Url}
use Rattle.esm_module_map.specs.declared.event.MapEvent.{MapEvent}
use Rattle.esm_module_map.specs.declared.event.MapEvent.TheVariants.{Begin, Enrol, Ask, Take, Post, Shut}
use Rattle.esm_module_map.specs.declared.reply.Filled.{Filled}
use Rattle.esm_module_map.specs.Replay.{opening, posted_at, is_out_with, is_order, step, replay, is_legal, maker_of}
use Rattle.esm_module_map.specs.Leading.{guide_in}
use Rattle.esm_module_map.specs.Fitting.{FitsIn, fits_by, may_fit}
use Rattle.esm_module_map.specs.Replies.{ContinuesFor}
use Rattle.esm_module_map.specs.Batches.{AreFilled, number_filled, posts_of}
use Rattle.esm_module_map.proofs.Replays.{eq_true, replay_more}
use Rattle.esm_module_map.proofs.Calls.{get_unchanged, order_found}
use Rattle.esm_module_map.proofs.Told.{HasUrl}
use Rattle.esm_module_map.proofs.Marks.{numbered_by}
use Rattle.esm_module_map.proofs.Traces.{order_has_url}
use Rattle.esm_module_map.proofs.Led.{guide_stays}
use Rattle.esm_module_map.proofs.Fits.{guide_there}
use Rattle.esm_module_map.proofs.Staying.{url_stays}

neither : (a b : Bool) → (a || b) ≡ false → (a ≡ false) × (b ≡ false)
neither true b e = cc
neither false b e = (refl, e)

-- what holds of the others holds where the name of each is another
others : {X : Type 0} (A B : X → Type 0) (name : X → ℕ) (n : ℕ) (xs : List X) → is_in nat_eq (map name xs) n ≡ false → ((x : X) → n ≢ name x → A x → B x) → All A xs → All B xs
others A B name n [] none on all = All-nil B
others A B name n (x ∷ xs) none on all = let parts = neither (nat_eq n (name x)) (is_in nat_eq (map name xs) n) none in
    All-cons B x xs (on x (λ same. let both : nat_eq n (name x) ≡ true = eq_true n (name x) same in let first = parts.0 in cc) (All-head A x xs all)) (others A B name n xs parts.1 on (All-tail A x xs all))

module _ {P G : Type 0} where
  -- a post leaves the guide
  guide_behind : (h : List (MapEvent P G)) (c n : ℕ) (p : Arc P Global) → guide_in (h ++ Post c n p ∷ []) ≡ guide_in h
  guide_behind [] c n p = refl
  guide_behind (Begin g ∷ es) c n p = refl
  guide_behind (Enrol d ∷ es) c n p = guide_behind es c n p
  guide_behind (Ask d m u why ∷ es) c n p = guide_behind es c n p
  guide_behind (Take d m ∷ es) c n p = guide_behind es c n p
  guide_behind (Post d m q ∷ es) c n p = guide_behind es c n p
  guide_behind (Shut d ∷ es) c n p = guide_behind es c n p

  module _ (weight : P → ℕ) where
    -- an order has a URL
    pub order_url : (h : List (MapEvent P G)) (c n : ℕ) → is_order (replay weight h) c n ≡ true → (u : Url) × HasUrl n u (replay weight h)
    order_url h c n order = order_has_url (replay weight h) c n (numbered_by weight h) order

    -- what was filled is an order
    abbrev pub IsOrderAt : List (MapEvent P G) → ℕ → Filled P → Type 0
    IsOrderAt h c f = is_order (replay weight h) c f.number ≡ true

    module _ (fits : G → P → Url → Bool) where
      -- what was filled fits the URL of its number
      abbrev FitsUrl : List (MapEvent P G) → Filled P → Type 0
      FitsUrl h f = (url : Url) → slice_get (replay weight h).urls f.number ≡ Some url → FitsIn fits h (arc_value f.payload) url

      -- one post more
      filled_on : (c : ℕ) (f : Filled P) (fs : List (Filled P)) (h now : List (MapEvent P G)) → AreFilled weight fits h c (f ∷ fs) → now ≡ h ++ Post c f.number f.payload ∷ [] → AreFilled weight fits now c fs
      filled_on c f fs h now all more =
          let s = replay weight h in
          let post : MapEvent P G = Post c f.number f.payload in
          let stepped : replay weight now ≡ step weight s post = ap (replay weight) more ∙ replay_more weight opening h post in record {
            once = all.once.1;
            orders = others (IsOrderAt h c) (IsOrderAt now c) number_filled f.number fs all.once.0
                (λ x other order. ap (λ r. is_order r c x.number) stepped ∙ ap (is_out_with c) (get_unchanged s.numbers f.number x.number (posted_at s.events) other) ∙ order)
                (All-tail (IsOrderAt h c) f fs all.orders);
            fit = All-weaker (FitsUrl h) (FitsUrl now)
                (λ x fit url has guide is. fit url (subst (λ r. slice_get r.urls x.number ≡ Some url) stepped has) guide (sym (guide_behind h c f.number f.payload) ∙ sym (ap guide_in more) ∙ is))
                fs (All-tail (FitsUrl h) f fs all.fit);
          }

      -- ---- what was filled is posted one by one

      -- what is left may be posted, and leads to the whole
      pub record IsPosting (c : ℕ) (found : List (MapEvent P G)) (whole : List (Filled P)) (now : List (MapEvent P G)) (left : List (Filled P)) : Type 0 where
        pub filled : AreFilled weight fits now c left
        pub leads : now ++ posts_of c left ≡ found ++ posts_of c whole

      pub posting_begins : (c : ℕ) (found : List (MapEvent P G)) (whole left : List (Filled P)) → left ≡ whole → AreFilled weight fits found c whole → IsPosting c found whole found left
      posting_begins c found whole left same all = record {
        filled = subst (AreFilled weight fits found c) (sym same) all;
        leads = ap (λ l. found ++ posts_of c l) same;
      }

      pub posting_on : (c : ℕ) (found : List (MapEvent P G)) (whole : List (Filled P)) (now mid : List (MapEvent P G)) (left rest : List (Filled P)) (f : Filled P)
          → IsPosting c found whole now left → left ≡ f ∷ rest → mid ≡ now ++ Post c f.number f.payload ∷ [] → IsPosting c found whole mid rest
      posting_on c found whole now mid left rest f m is more = record {
        filled = filled_on c f rest now mid (subst (AreFilled weight fits now c) is m.filled) more;
        leads = ap (λ l. l ++ posts_of c rest) more ∙ append_assoc now (Post c f.number f.payload ∷ []) (posts_of c rest) ∙ ap (λ l. now ++ posts_of c l) (sym is) ∙ m.leads;
      }

      pub posting_done : (c : ℕ) (found : List (MapEvent P G)) (whole : List (Filled P)) (now : List (MapEvent P G)) (left : List (Filled P)) → length left ≡ 0 → IsPosting c found whole now left → now ≡ found ++ posts_of c whole
      posting_done c found whole now [] none m = sym (append-nil now) ∙ m.leads
      posting_done c found whole now (f ∷ left) none m = absurd (omega (arith, none))

      -- the next is an order
      pub posting_order : (c : ℕ) (found : List (MapEvent P G)) (whole : List (Filled P)) (now : List (MapEvent P G)) (left rest : List (Filled P)) (f : Filled P) → IsPosting c found whole now left → left ≡ f ∷ rest
          → is_order (replay weight now) c f.number ≡ true
      posting_order c found whole now left rest f m is = All-head (IsOrderAt now c) f rest (subst (AreFilled weight fits now c) is m.filled).orders

      -- and fits
      pub posting_fits : (c : ℕ) (found : List (MapEvent P G)) (whole : List (Filled P)) (now : List (MapEvent P G)) (left rest : List (Filled P)) (f : Filled P)
          → is_legal weight now ≡ true → c < (replay weight now).callers → IsPosting c found whole now left → left ≡ f ∷ rest → may_fit weight fits now (Post c f.number f.payload) ≡ true
      posting_fits c found whole now left rest f legal enrolled m is =
          let all = subst (AreFilled weight fits now c) is m.filled in
          let guide = guide_there weight now legal (omega (arith, enrolled)) in
          let url = order_url now c f.number (All-head (IsOrderAt now c) f rest all.orders) in
          ap (λ o. fits_by fits o (arc_value f.payload) (slice_get (replay weight now).urls f.number)) guide.1
          ∙ ap (λ o. fits_by fits (Some guide.0) (arc_value f.payload) o) url.1
          ∙ All-head (FitsUrl now) f rest all.fit url.0 url.1 guide.0 guide.1

      -- ---- what a caller had seen, and what it finds

      fit_found : (c : ℕ) (seen found : List (MapEvent P G)) (f : Filled P) → is_legal weight seen ≡ true → c < (replay weight seen).callers → ContinuesFor maker_of found seen (Some c)
          → IsOrderAt seen c f → FitsUrl seen f → FitsUrl found f
      fit_found c seen found f legal enrolled q order fit url has guide is =
          let u = order_url seen c f.number order in
          let g = guide_there weight seen legal (omega (arith, enrolled)) in
          let first : Some u.0 ≡ Some url = sym (url_stays weight f.number u.0 seen found (q.0, q.1) u.1) ∙ has in let one : u.0 ≡ url = cc in
          let second : Some g.0 ≡ Some guide = sym (subst (λ h. guide_in h ≡ Some g.0) (sym q.1) (guide_stays seen q.0 g.0 g.1)) ∙ is in let two : g.0 ≡ guide = cc in
          ap (λ h. fits h (arc_value f.payload) url) (sym two) ∙ ap (λ w. fits g.0 (arc_value f.payload) w) (sym one) ∙ fit u.0 u.1 g.0 g.1

      -- what a caller has filled it may post behind what it finds
      pub filled_found : (c : ℕ) (seen found : List (MapEvent P G)) (fs : List (Filled P)) → is_legal weight seen ≡ true → c < (replay weight seen).callers → is_legal weight found ≡ true → ContinuesFor maker_of found seen (Some c)
          → AreFilled weight fits seen c fs → AreFilled weight fits found c fs
      filled_found c seen found fs legal enrolled ok q all = record {
        once = all.once;
        orders = All-weaker (IsOrderAt seen c) (IsOrderAt found c) (λ f order. order_found weight c f.number seen found ok q order) fs all.orders;
        fit = λ k d less. fit_found c seen found (slice_index_or fs k d) legal enrolled q (all.orders k d less) (all.fit k d less);
      }
