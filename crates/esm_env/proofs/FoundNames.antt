-- The places of names, as a map has them.
use Rattle.std.proofs.Common.{◌≡◌, ℕ, zero, suc, ◌<◌, Bool, true, false, List, [], ◌∷◌, ◌++◌, map, length, refl, ap, sym, subst, ◌∙◌, slice_index_or, arith, ◌⊎◌, inl, inr}
use Rattle.std.proofs.lemmas.Slice.Eq.{bytes_eq-Decides}
use Rattle.std.specs.Prelude.{Option, Some, None, is_some, option_map, bytes_eq, if◌then◌else◌}
use Rattle.std.specs.Option.{option_or}
use Rattle.esm_base.specs.TextMap.{TextMapView, at, with, with_new}
use Rattle.esm_base.proofs.TextMaps.{at-with_own, at-with_other}
use Rattle.esm_values.specs.declared.value.Value.{Value}
use Rattle.esm_env.specs.NamePlaces.{first_place, ArePlaces}
use Rattle.esm_env.specs.Slots.{place_in, place_by, IsPlace, write_slot}
use Rattle.esm_env.specs.Scopes.{import_in, import_by}
use Rattle.esm_env.specs.declared.slots.Slot.{Slot}
use Rattle.esm_env.specs.declared.scope.Target.{Target}

abbrev pub slot_names : List Slot → List (List ℕ)
slot_names slots = map (λ s. s.name) slots

abbrev pub import_names : List (List ℕ × Target) → List (List ℕ)
import_names is = map (λ i. i.0) is

-- ---- what a place says of slots

abbrev PlaceIs : ℕ → ℕ → Option ℕ → Type 0
PlaceIs n len None = n ≡ len
PlaceIs n len (Some k) = (n ≡ k) × (k < len)

place_step : (b : Bool) (n len : ℕ) (o : Option ℕ) → PlaceIs n len o → PlaceIs (place_by b n) (suc len) (if b then Some 0 else option_map suc o)
place_step true n len o h = (refl, omega arith)
place_step false n len None h = ap suc h
place_step false n len (Some k) h = (ap suc h.0, omega (arith, h.1))

place_is : (slots : List Slot) (x : List ℕ) → PlaceIs (place_in slots x) (length slots) (first_place (slot_names slots) x)
place_is [] x = refl
place_is (s ∷ ss) x = place_step (bytes_eq s.name x) (place_in ss x) (length ss) (first_place (slot_names ss) x) (place_is ss x)

to_place : (slots : List Slot) (x : List ℕ) (o : Option ℕ) → PlaceIs (place_in slots x) (length slots) o → IsPlace slots x o
to_place slots x None h = h
to_place slots x (Some k) h = h

pub slot_place : (slots : List Slot) (x : List ℕ) (o : Option ℕ) → o ≡ first_place (slot_names slots) x → IsPlace slots x o
slot_place slots x o e = to_place slots x o (subst (λ o. PlaceIs (place_in slots x) (length slots) o) (sym e) (place_is slots x))

pub names_written : (slots : List Slot) (k : ℕ) (v : Value) → slot_names (write_slot slots k v) ≡ slot_names slots
names_written [] k v = refl
names_written (s ∷ ss) zero v = refl
names_written (s ∷ ss) (suc k) v = ap (λ ns. s.name ∷ ns) (names_written ss k v)

-- ---- what a place says of imports

abbrev pub ImportIs : Option Target → List (List ℕ × Target) → Option ℕ → Type 0
ImportIs found is None = found ≡ None
ImportIs found is (Some k) = (k < length is) × ((d : List ℕ × Target) → found ≡ Some (slice_index_or is k d).1)

import_step : (b : Bool) (i : List ℕ × Target) (is : List (List ℕ × Target)) (found : Option Target) (o : Option ℕ) → ImportIs found is o → ImportIs (import_by b i.1 found) (i ∷ is) (if b then Some 0 else option_map suc o)
import_step true i is found o h = (omega arith, λ d. refl)
import_step false i is found None h = h
import_step false i is found (Some k) h = (omega (arith, h.0), h.1)

import_is : (is : List (List ℕ × Target)) (x : List ℕ) → ImportIs (import_in is x) is (first_place (import_names is) x)
import_is [] x = refl
import_is (i ∷ is) x = import_step (bytes_eq i.0 x) i is (import_in is x) (first_place (import_names is) x) (import_is is x)

pub import_place : (is : List (List ℕ × Target)) (x : List ℕ) (o : Option ℕ) → o ≡ first_place (import_names is) x → ImportIs (import_in is x) is o
import_place is x o e = subst (λ o. ImportIs (import_in is x) is o) (sym e) (import_is is x)

-- ---- a map with one name more

map_or : (o : Option ℕ) (b : Bool) (n : ℕ) → option_map suc (option_or o (if b then Some n else None)) ≡ option_or (option_map suc o) (if b then Some (suc n) else None)
map_or None true n = refl
map_or None false n = refl
map_or (Some k) b n = refl

found_push : (names : List (List ℕ)) (key x : List ℕ) → first_place (names ++ key ∷ []) x ≡ option_or (first_place names x) (if bytes_eq key x then Some (length names) else None)
found_push [] key x = refl
found_push (n ∷ ns) key x = by (bytes_eq n x) (found_push ns key x)
  where
    by : (b : Bool) → first_place (ns ++ key ∷ []) x ≡ option_or (first_place ns x) (if bytes_eq key x then Some (length ns) else None) → (if b then Some 0 else option_map suc (first_place (ns ++ key ∷ []) x)) ≡ option_or (if b then Some 0 else option_map suc (first_place ns x)) (if bytes_eq key x then Some (suc (length ns)) else None)
    by true h = refl
    by false h = ap (option_map suc) h ∙ map_or (first_place ns x) (bytes_eq key x) (length ns)

or_none : (o : Option ℕ) → o ≡ option_or o None
or_none None = refl
or_none (Some k) = refl

some_or : (o other : Option ℕ) → is_some o ≡ true → o ≡ option_or o other
some_or None other e = cc
some_or (Some k) other e = refl

none_or : (o other : Option ℕ) → is_some o ≡ false → option_or o other ≡ other
none_or None other e = refl
none_or (Some k) other e = cc

-- where the map has the key already
stays : (old : TextMapView ℕ) (names : List (List ℕ)) (key x : List ℕ) → ArePlaces old names → is_some (at key old) ≡ true → (b : Bool) → bytes_eq key x ≡ b → at x old ≡ option_or (first_place names x) (if b then Some (length names) else None)
stays old names key x a there true e =
    let same : key ≡ x = (bytes_eq-Decides key x).0 e in
    let is : is_some (first_place names x) ≡ true = subst (λ o. is_some o ≡ true) (a x) (subst (λ k. is_some (at k old) ≡ true) same there) in
    a x ∙ some_or (first_place names x) (Some (length names)) is
stays old names key x a there false e = a x ∙ or_none (first_place names x)

-- where it gets it
comes : (old : TextMapView ℕ) (names : List (List ℕ)) (key x : List ℕ) → ArePlaces old names → is_some (at key old) ≡ false → (b : Bool) → bytes_eq x key ≡ b → at x (with key (length names) old) ≡ option_or (first_place names x) (if bytes_eq key x then Some (length names) else None)
comes old names key x a fresh true e =
    let same : x ≡ key = (bytes_eq-Decides x key).0 e in
    let is : is_some (first_place names key) ≡ false = subst (λ o. is_some o ≡ false) (a key) fresh in
    let own : bytes_eq key key ≡ true = (bytes_eq-Decides key key).1 refl in
    subst (λ q. at q (with key (length names) old) ≡ option_or (first_place names q) (if bytes_eq key q then Some (length names) else None)) (sym same)
    (at-with_own key (length names) old ∙ sym (none_or (first_place names key) (if bytes_eq key key then Some (length names) else None) is ∙ ap (λ b. if b then Some (length names) else None) own))
comes old names key x a fresh false e = at-with_other x key (length names) old e ∙ a x ∙ or_none (first_place names x) ∙ ap (λ b. option_or (first_place names x) (if b then Some (length names) else None)) (sym (apart (bytes_eq key x) refl))
  where
    apart : (b : Bool) → bytes_eq key x ≡ b → bytes_eq key x ≡ false
    apart false h = h
    apart true h = let same : key ≡ x = (bytes_eq-Decides key x).0 h in absurd (clash (bytes_eq x key) ((bytes_eq-Decides x key).1 (sym same)) e)
      where
        clash : (b : Bool) → b ≡ true → b ≡ false → ⊥
        clash true h k = cc
        clash false h k = cc

inserted : (o : Option ℕ) (is_it : Bool) (old new put : TextMapView ℕ) → is_some o ≡ is_it → (fresh : Bool) → (if is_it then None else Some put) ≡ (if fresh then Some new else None) → (fresh ≡ false → new ≡ old) → ((is_some o ≡ true) × (new ≡ old)) ⊎ ((is_some o ≡ false) × (new ≡ put))
inserted o true old new put e true h k = cc
inserted o true old new put e false h k = inl (e, k refl)
inserted o false old new put e true h k = inr (e, cc)
inserted o false old new put e false h k = cc

pub placed : (old new : TextMapView ℕ) (names : List (List ℕ)) (key : List ℕ) (place : ℕ) (fresh : Bool) → with_new key place old ≡ (if fresh then Some new else None) → (fresh ≡ false → new ≡ old) → length names ≡ place → ArePlaces old names → ArePlaces new (names ++ key ∷ [])
placed old new names key place fresh h k l a x = by (inserted (at key old) (is_some (at key old)) old new (with key place old) refl fresh h k) ∙ sym (found_push names key x)
  where
    by : ((is_some (at key old) ≡ true) × (new ≡ old)) ⊎ ((is_some (at key old) ≡ false) × (new ≡ with key place old)) → at x new ≡ option_or (first_place names x) (if bytes_eq key x then Some (length names) else None)
    by (inl (there, same)) = ap (at x) same ∙ stays old names key x a there (bytes_eq key x) refl
    by (inr (absent, put)) = ap (at x) put ∙ ap (λ n. at x (with key n old)) (sym l) ∙ comes old names key x a absent (bytes_eq x key) refl
