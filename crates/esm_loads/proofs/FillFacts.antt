-- What the requests of modules have loaded where a load ends.
use Rattle.std.proofs.Common.{◌≡◌, ℕ, suc, zero, ◌+◌, ◌<◌, ◌≤◌, Bool, true, false, List, [], ◌∷◌, length, map, Option, Some, None, refl, ap, subst, sym, ◌∙◌, arith, inl, inr}
use Rattle.std.specs.Prelude.{◌⊎◌, ◌||◌, slice_get, slice_set, nat_eq, All}
use Rattle.std.proofs.lemmas.List.{length-set}
use Rattle.esm_base.specs.Urls.{Url}
use Rattle.esm_base.specs.declared.module_id.ModuleId.{ModuleId}
use Rattle.esm_ast.specs.Entries.{EntryLists}
use Rattle.esm_realm.specs.ById.{entries_at, entries_by}
use Rattle.esm_realm.specs.Laws.{AreDistinct}
use Rattle.esm_realm.specs.Sound.{RecordParts, IsSound, IsSoundRecord, AreLoaded, load_request_of, parts_of, url_of}
use Rattle.esm_realm.specs.declared.record.Record.{Record}
use Rattle.esm_realm.specs.declared.record.ModuleStatus.{ModuleStatus}
use Rattle.esm_realm.specs.declared.record.ModuleStatus.TheVariants.{New, Unlinked, Linking, Linked}
use Rattle.esm_loads.specs.LoadsView.{urls_of, place_in, get_by, id_in, id_by, id_under, is_unlinked, is_unlinked_by, is_past_new, before_linking, loaded_before_linking, status_before_linking}
use Rattle.esm_loads.specs.Fits.{HaveRecords}
use Rattle.esm_loads.specs.Loaded.{PastNewStay}
use Rattle.esm_loads.specs.Inner.Filling.{AreIdsBelow, Fills, FillsNew, IsFilled, Unlinks, UnlinksBy, load_at, load_by}
use Rattle.esm_loads.specs.declared.data.Slot.{Slot}
use Rattle.esm_loads.specs.declared.data.UrlState.{UrlState}
use Rattle.esm_loads.proofs.Places.{some_is, get_within, set_get, set_other, get_map, set_map, all_get, all_set}
use Rattle.esm_loads.proofs.PlacesOfUrls.{place_some}
use Rattle.esm_loads.proofs.UrlIndices.{urls_many}
use Rattle.esm_loads.proofs.Lookups.{under, own_id, or_right, or_nothing}
use Rattle.esm_loads.proofs.EnterFacts.{id_within}

-- ---- lists

pub set_twice : {A : Type 0} (xs : List A) (k : ℕ) (a b : A) → slice_set (slice_set xs k a) k b ≡ slice_set xs k b
set_twice [] k a b = refl
set_twice (x ∷ xs) zero a b = refl
set_twice (x ∷ xs) (suc k) a b = ap (λ ys. x ∷ ys) (set_twice xs k a b)

pub set_own : {A : Type 0} (xs : List A) (k : ℕ) (a : A) → slice_get xs k ≡ Some a → slice_set xs k a ≡ xs
set_own [] k a e = refl
set_own (x ∷ xs) zero a e = ap (λ y. y ∷ xs) (sym (some_is e))
set_own (x ∷ xs) (suc k) a e = ap (λ ys. x ∷ ys) (set_own xs k a e)

same_id : (n m : ℕ) → nat_eq n m ≡ true → n ≡ m
same_id n m e = grind arith

apart_id : (n m : ℕ) → nat_eq n m ≡ false → n ≡ m → ⊥
apart_id n m f e = let t = own_id n in cc

-- ---- the module under a URL

pub place_within : (ss : List Slot) (u : Url) (k : ℕ) → place_in (urls_of ss) u ≡ Some k → k < length ss
place_within ss u k place = let w = (place_some (urls_of ss) u k place).within in omega (arith, w, urls_many ss)

-- by the state of the URL, which has this place
pub under_is : (ss : List Slot) (u : Url) (k : ℕ) (state : UrlState) → place_in (urls_of ss) u ≡ Some k → ((s : Slot) → slice_get ss k ≡ Some s → state ≡ s.state) → id_under ss u ≡ id_in state
under_is ss u k state place told =
    let s = get_within ss k (place_within ss u k place) in
    ap (λ o. id_by (get_by ss o)) place ∙ (ap id_by s.1 ∙ ap id_in (sym (told s.0 s.1)))

pub under_none : (ss : List Slot) (u : Url) → place_in (urls_of ss) u ≡ None → id_under ss u ≡ None
under_none ss u e = ap (λ o. id_by (get_by ss o)) e

-- what is found is a record
pub ids_below : (ss : List Slot) (R : List RecordParts) → HaveRecords ss R → AreIdsBelow ss (length R)
ids_below ss R h u id e = let x = under ss u id e in id_within ss R x.place id h x.module_is

-- ---- records in memory

pub parts_get : (xs : List Record) (k : ℕ) (r : Record) → slice_get xs k ≡ Some r → slice_get (map parts_of xs) k ≡ Some (parts_of r)
parts_get xs k r e = get_map parts_of xs k r e

-- ---- one request

pub request_is : (R : List RecordParts) (id i : ℕ) (t : ModuleId) (r : RecordParts) → slice_get R id ≡ Some r → load_request_of R id i t ≡ slice_set R id (record r { loaded = slice_set r.loaded i (Some t) })
request_is [] id i t r e = cc
request_is (q ∷ R) zero i t r e = ap (λ (q : RecordParts). record q { loaded = slice_set q.loaded i (Some t) } ∷ R) (some_is e)
request_is (q ∷ R) (suc id) i t r e = ap (λ rs. q ∷ rs) (request_is R id i t r e)

sound_at : (R : List RecordParts) (id : ℕ) (r : RecordParts) → IsSound R → slice_get R id ≡ Some r → IsSoundRecord r.url r.entries r.targets
sound_at R id r sound at = all_get (λ (r : RecordParts). IsSoundRecord r.url r.entries r.targets) R id r sound.each at

loaded_at : (R : List RecordParts) (id : ℕ) (r : RecordParts) → IsSound R → slice_get R id ≡ Some r → AreLoaded (length R) r.entries r.loaded
loaded_at R id r sound at = all_get (λ (r : RecordParts). AreLoaded (length R) r.entries r.loaded) R id r sound.loaded at

-- a sound record has a place for each target
pub as_many_places : (R : List RecordParts) (id : ℕ) (r : RecordParts) → IsSound R → slice_get R id ≡ Some r → length r.loaded ≡ length r.targets
as_many_places R id r sound at = (loaded_at R id r sound at).as_many ∙ sym (sound_at R id r sound at).as_many

pub request_within : (R : List RecordParts) (id i : ℕ) → IsSound R → id < length R → ((r : RecordParts) → slice_get R id ≡ Some r → i < length r.targets) → i < length (entries_at R id).requests
request_within R id i sound inside told =
    let r = get_within R id inside in
    subst (λ (e : EntryLists). i < length e.requests) (sym (ap entries_by r.1)) (subst (λ n. i < n) (sound_at R id r.0 sound r.1).as_many (told r.0 r.1))

-- the module under the target is loaded
pub loads_some : (ss : List Slot) (R new : List RecordParts) (id i : ℕ) (t : ModuleId) (r : RecordParts) (u v : Url) → slice_get R id ≡ Some r → new ≡ load_request_of R id i t → id_under ss v ≡ Some t.0 → slice_get r.targets i ≡ Some v → slice_get r.targets i ≡ Some u
    → new ≡ slice_set R id (record r { loaded = load_at ss u i r.loaded })
loads_some ss R new id i t r u v at is below e f =
    let same : v ≡ u = some_is (sym e ∙ f) in
    is ∙ (request_is R id i t r at ∙ ap (λ o. slice_set R id (record r { loaded = load_by o i r.loaded })) (sym (ap (id_under ss) (sym same) ∙ below)))

-- none is there
pub loads_none : (ss : List Slot) (R : List RecordParts) (id i : ℕ) (r : RecordParts) (u v : Url) → slice_get R id ≡ Some r → id_under ss v ≡ None → slice_get r.targets i ≡ Some v → slice_get r.targets i ≡ Some u → R ≡ slice_set R id (record r { loaded = load_at ss u i r.loaded })
loads_none ss R id i r u v at below e f =
    let same : v ≡ u = some_is (sym e ∙ f) in
    sym (ap (λ o. slice_set R id (record r { loaded = load_by o i r.loaded })) (ap (id_under ss) (sym same) ∙ below) ∙ set_own R id r at)

-- ---- all requests

pub fills_none : (ss : List Slot) (R : List RecordParts) (id : ℕ) (r : RecordParts) → slice_get R id ≡ Some r → Fills ss 0 id r R R
fills_none ss R id r at = record { loaded = r.loaded; is = sym (set_own R id r at); right = λ i n u l e f. absurd (omega (arith, l)); as_many = refl }

pub fills_at : (ss : List Slot) (many id : ℕ) (r : RecordParts) (R M : List RecordParts) → slice_get R id ≡ Some r → (f : Fills ss many id r R M) → slice_get M id ≡ Some (record r { loaded = f.loaded })
fills_at ss many id r R M at f = ap (λ rs. slice_get rs id) f.is ∙ set_get R id r (record r { loaded = f.loaded }) at

load_long : (o : Option ℕ) (i : ℕ) (ls : List (Option ModuleId)) → length (load_by o i ls) ≡ length ls
load_long None i ls = refl
load_long (Some id) i ls = length-set ls i (Some (record { 0 = id }))

load_other : (o : Option ℕ) (i j : ℕ) (ls : List (Option ModuleId)) → (j ≡ i → ⊥) → slice_get (load_by o i ls) j ≡ slice_get ls j
load_other None i j ls n = refl
load_other (Some id) i j ls n = set_other ls i j (Some (record { 0 = id })) n

load_here : (o : Option ℕ) (i id : ℕ) (ls : List (Option ModuleId)) → o ≡ Some id → i < length ls → slice_get (load_by o i ls) i ≡ Some (Some (record { 0 = id }))
load_here o i id ls e l = let x = get_within ls i l in ap (λ o. slice_get (load_by o i ls) i) e ∙ set_get ls i x.0 (Some (record { 0 = id })) x.1

pub fills_next : (ss : List Slot) (i id : ℕ) (r : RecordParts) (R M new : List RecordParts) → slice_get R id ≡ Some r → i < length r.targets → length r.loaded ≡ length r.targets → Fills ss i id r R M
    → ((q : RecordParts) (u : Url) → slice_get M id ≡ Some q → slice_get q.targets i ≡ Some u → new ≡ slice_set M id (record q { loaded = load_at ss u i q.loaded })) → Fills ss (i + 1) id r R new
fills_next ss i id r R M new at l long f step =
    let u = get_within r.targets i l in
    record {
      loaded = load_at ss u.0 i f.loaded;
      is = step (record r { loaded = f.loaded }) u.0 (fills_at ss i id r R M at f) u.1
          ∙ (ap (λ rs. slice_set rs id (record r { loaded = load_at ss u.0 i f.loaded })) f.is ∙ set_twice R id (record r { loaded = f.loaded }) (record r { loaded = load_at ss u.0 i f.loaded }));
      right = λ j n v m e g. by u.0 u.1 j n v m e g (nat_eq j i) refl;
      as_many = load_long (id_under ss u.0) i f.loaded ∙ f.as_many;
    }
  where
    inside : i < length f.loaded
    inside = subst (λ n. i < n) (sym (f.as_many ∙ long)) l

    by : (u : Url) → slice_get r.targets i ≡ Some u → (j n : ℕ) (v : Url) → j < i + 1 → slice_get r.targets j ≡ Some v → id_under ss v ≡ Some n → (b : Bool) → nat_eq j i ≡ b → slice_get (load_at ss u i f.loaded) j ≡ Some (Some (record { 0 = n }))
    by u here j n v m e g true k =
        let same : j ≡ i = same_id j i k in
        let url : v ≡ u = some_is (sym e ∙ (ap (slice_get r.targets) same ∙ here)) in
        ap (slice_get (load_at ss u i f.loaded)) same ∙ load_here (id_under ss u) i n f.loaded (ap (id_under ss) (sym url) ∙ g) inside
    by u here j n v m e g false k =
        let apart = apart_id j i k in
        load_other (id_under ss u) i j f.loaded apart ∙ f.right j n v (before j i m apart) e g
      where
        before : (j i : ℕ) → j < i + 1 → (j ≡ i → ⊥) → j < i
        before j i m d = grind arith

pub fills_all : (ss : List Slot) (many id : ℕ) (r : RecordParts) (R M : List RecordParts) → length r.targets ≤ many → Fills ss many id r R M → Fills ss (length r.targets) id r R M
fills_all ss many id r R M le f = record { loaded = f.loaded; is = f.is; right = λ i n u l e g. f.right i n u (omega (arith, l, le)) e g; as_many = f.as_many }

pub fills_long : (ss : List Slot) (many id : ℕ) (r : RecordParts) (R M : List RecordParts) → Fills ss many id r R M → length M ≡ length R
fills_long ss many id r R M f = ap length f.is ∙ length-set R id (record r { loaded = f.loaded })

-- ---- the status

-- another status, and the records are as sound
pub sound_status : (R : List RecordParts) (id : ℕ) (r : RecordParts) (status : ModuleStatus) → IsSound R → slice_get R id ≡ Some r → IsSound (slice_set R id (record r { status = status }))
sound_status R id r status s at =
    let q : RecordParts = record r { status = status } in
    let long = length-set R id q in
    record {
      few = omega (arith, long, s.few);
      differ = subst AreDistinct (sym (set_map url_of R id q ∙ set_own (map url_of R) id r.url (get_map url_of R id r at))) s.differ;
      each = all_set (λ (r : RecordParts). IsSoundRecord r.url r.entries r.targets) R id q s.each (sound_at R id r s at);
      loaded = subst (λ n. All (λ (r : RecordParts). AreLoaded n r.entries r.loaded) (slice_set R id q)) (sym long) (all_set (λ (r : RecordParts). AreLoaded (length R) r.entries r.loaded) R id q s.loaded (loaded_at R id r s at));
    }

pub unlinks_new : (ss : List Slot) (id : ℕ) (r : RecordParts) (R M new : List RecordParts) → slice_get R id ≡ Some r → r.status ≡ New → Fills ss (length r.targets) id r R M
    → ((q : RecordParts) → slice_get M id ≡ Some q → new ≡ slice_set M id (record q { status = Unlinked })) → Unlinks ss id r R new
unlinks_new ss id r R M new at st f step =
    let now : RecordParts = record r { loaded = f.loaded; status = Unlinked } in
    record {
      now = now;
      is = step (record r { loaded = f.loaded }) (fills_at ss (length r.targets) id r R M at f) ∙ (ap (λ rs. slice_set rs id now) f.is ∙ set_twice R id (record r { loaded = f.loaded }) now);
      how = subst (λ s. UnlinksBy ss s r now) (sym st) (f.loaded, refl, f.right);
    }

pub unlinks_other : (ss : List Slot) (id : ℕ) (r : RecordParts) (R : List RecordParts) (status : ModuleStatus) → slice_get R id ≡ Some r → r.status ≡ status → UnlinksBy ss status r r → Unlinks ss id r R R
unlinks_other ss id r R status at st how = record { now = r; is = sym (set_own R id r at); how = subst (λ s. UnlinksBy ss s r r) (sym st) how }

module _ (ss : List Slot) (r now : RecordParts) where
  unchanged : (s : ModuleStatus) → r.status ≡ s → UnlinksBy ss s r now → before_linking now ≡ before_linking r
  unchanged New st h = ap before_linking h.1 ∙ sym (ap (λ (s : ModuleStatus). record r { loaded = loaded_before_linking s r.loaded; status = status_before_linking s }) st)
  unchanged Unlinked st h = ap before_linking h
  unchanged Linking st h = ap before_linking h
  unchanged Linked st h = ap before_linking h

  past_after : (s : ModuleStatus) → r.status ≡ s → UnlinksBy ss s r now → is_past_new now.status ≡ true
  past_after New st h = ap (λ (q : RecordParts). is_past_new q.status) h.1
  past_after Unlinked st h = ap (λ (q : RecordParts). is_past_new q.status) h ∙ ap is_past_new st
  past_after Linking st h = ap (λ (q : RecordParts). is_past_new q.status) h ∙ ap is_past_new st
  past_after Linked st h = ap (λ (q : RecordParts). is_past_new q.status) h ∙ ap is_past_new st

  -- it was so before, or its requests have loaded their modules
  filled_after : (s : ModuleStatus) → UnlinksBy ss s r now → (now ≡ r) ⊎ IsFilled ss now
  filled_after New h = inr (subst (IsFilled ss) (sym h.1) h.2)
  filled_after Unlinked h = inl h
  filled_after Linking h = inl h
  filled_after Linked h = inl h

  -- what isn't New stays
  unmoved : (s : ModuleStatus) → UnlinksBy ss s r now → is_past_new s ≡ true → now ≡ r
  unmoved New h p = cc
  unmoved Unlinked h p = h
  unmoved Linking h p = h
  unmoved Linked h p = h

module _ (ss : List Slot) (id : ℕ) (r : RecordParts) (R new : List RecordParts) (at : slice_get R id ≡ Some r) (u : Unlinks ss id r R new) where
  pub same_after : map before_linking new ≡ map before_linking R
  same_after =
      ap (map before_linking) u.is
      ∙ (set_map before_linking R id u.now ∙ set_own (map before_linking R) id (before_linking u.now) (get_map before_linking R id r at ∙ ap (λ q. Some q) (sym (unchanged ss r u.now r.status refl u.how))))

  pub more_after : (n : ℕ) → is_unlinked new n ≡ (is_unlinked R n || nat_eq n id)
  more_after n = ap (λ rs. is_unlinked rs n) u.is ∙ by (nat_eq n id) refl
    where
      by : (b : Bool) → nat_eq n id ≡ b → is_unlinked (slice_set R id u.now) n ≡ (is_unlinked R n || nat_eq n id)
      by true e =
          ap (λ m. is_unlinked (slice_set R id u.now) m) (same_id n id e)
          ∙ (ap is_unlinked_by (set_get R id r u.now at) ∙ (past_after ss r u.now r.status refl u.how ∙ sym (or_right (is_unlinked R n) (nat_eq n id) e)))
      by false e = ap is_unlinked_by (set_other R id n u.now (apart_id n id e)) ∙ sym (or_nothing (is_unlinked R n) (nat_eq n id) e)

  pub fills_after : (first : List RecordParts) → FillsNew ss first R → FillsNew ss first new
  fills_after first before k q e p = by (nat_eq k id) refl
    where
      there : slice_get (slice_set R id u.now) k ≡ Some q
      there = ap (λ rs. slice_get rs k) (sym u.is) ∙ e

      here : k ≡ id → q ≡ u.now → (u.now ≡ r) ⊎ IsFilled ss u.now → (slice_get first k ≡ Some q) ⊎ IsFilled ss q
      here same is (inl h) = before k q (ap (slice_get R) same ∙ (at ∙ ap (λ q. Some q) (sym (is ∙ h)))) p
      here same is (inr h) = inr (subst (IsFilled ss) (sym is) h)

      by : (b : Bool) → nat_eq k id ≡ b → (slice_get first k ≡ Some q) ⊎ IsFilled ss q
      by true f =
          let same = same_id k id f in
          here same (some_is (sym there ∙ (ap (slice_get (slice_set R id u.now)) same ∙ set_get R id r u.now at))) (filled_after ss r u.now r.status u.how)
      by false f = before k q (sym (set_other R id k u.now (apart_id k id f)) ∙ there) p

  pub stay_after : (first : List RecordParts) → PastNewStay first R → PastNewStay first new
  stay_after first before k q e p = ap (λ rs. slice_get rs k) u.is ∙ by (nat_eq k id) refl
    where
      there : slice_get R k ≡ Some q
      there = before k q e p

      by : (b : Bool) → nat_eq k id ≡ b → slice_get (slice_set R id u.now) k ≡ Some q
      by true f =
          let same = same_id k id f in
          let is : r ≡ q = some_is (sym at ∙ (ap (slice_get R) (sym same) ∙ there)) in
          let past : is_past_new r.status ≡ true = ap (λ (r : RecordParts). is_past_new r.status) is ∙ p in
          ap (slice_get (slice_set R id u.now)) same ∙ (set_get R id r u.now at ∙ ap (λ q. Some q) (unmoved ss r u.now r.status u.how past ∙ is))
      by false f = set_other R id k u.now (apart_id k id f) ∙ there

pub fills_same : (ss : List Slot) (R : List RecordParts) → FillsNew ss R R
fills_same ss R id r e p = inl e
