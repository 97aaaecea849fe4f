-- A tree with texts as keys, beside the finite map that contracts see.
use Rattle.std.proofs.Common.{◌≡◌, ℕ, List, [], ◌∷◌, map, Some, None, Ordering, Less, Equal, Greater, String, Global, string_bytes, bytes_eq, is_some, is_eq, true, false, cond, refl, ap, sym, ◌∙◌}
use Rattle.std.proofs.lemmas.Cmp.{tied_itself, nat_list_cmp_total}
use Rattle.std.proofs.lemmas.Map.Text.{is_eq-slice_cmp}
use Rattle.std.proofs.lemmas.Slice.Eq.{bytes_eq-Decides}
use Rattle.std.specs.BTreeMap.{insert_entry, is_at}
use Rattle.std.specs.Cmp.Lexicographic.{slice_cmp}
use Rattle.std.specs.Map.{lookup}
use Rattle.std.specs.Ordering.{nat_cmp, match_ordering}
use Rattle.std.specs.String.{string_cmp}
use Rattle.esm_base.specs.TextMap.{TextMapView, at, with, with_new}

-- the entries as contracts see them
abbrev pub seen : {A : Type 0} → List (String Global × A) → TextMapView A
seen es = map (λ e. (string_bytes e.0, e.1)) es

pub at-seen : {A : Type 0} (key : List ℕ) (es : List (String Global × A)) → lookup (is_at (λ k. slice_cmp nat_cmp key (string_bytes k))) es ≡ at key (seen es)
at-seen key [] = refl
at-seen key (e ∷ es) = ap (cond (is_eq (slice_cmp nat_cmp key (string_bytes e.0))) (Some e.1)) (at-seen key es)

seen-match_ordering : {A : Type 0} (o : Ordering) (a b c : List (String Global × A)) → seen (match_ordering o a b c) ≡ match_ordering o (seen a) (seen b) (seen c)
seen-match_ordering Less a b c = refl
seen-match_ordering Equal a b c = refl
seen-match_ordering Greater a b c = refl

pub with-seen : {A : Type 0} (key : String Global) (value : A) (es : List (String Global × A)) → seen (insert_entry string_cmp es key value) ≡ with (string_bytes key) value (seen es)
with-seen key value [] = refl
with-seen key value (e ∷ es) = seen-match_ordering (string_cmp key e.0) _ _ _ ∙ rw (with-seen key value es)

-- a key that is there isn't put in
pub with_new-there : {A : Type 0} (key : List ℕ) (value : A) (map : TextMapView A) → is_some (at key map) ≡ true → with_new key value map ≡ None
with_new-there key value map there = rw there

pub with_new-fresh : {A : Type 0} (key : List ℕ) (value : A) (map : TextMapView A) → is_some (at key map) ≡ false → with_new key value map ≡ Some (with key value map)
with_new-fresh key value map fresh = rw fresh

-- whether the tree has a key
pub has-seen : {A : Type 0} (q key : List ℕ) (es : List (String Global × A)) (now : TextMapView A) → q ≡ key → seen es ≡ now → is_some (lookup (is_at (λ k. slice_cmp nat_cmp q (string_bytes k))) es) ≡ is_some (at key now)
has-seen q key es now same view = ap is_some (at-seen q es) ∙ rw (same, view)

-- the tree with one entry more
pub put-seen : {A : Type 0} (key : String Global) (value : A) (es new : List (String Global × A)) (now : TextMapView A) → seen es ≡ now → new ≡ insert_entry string_cmp es key value → is_some (at (string_bytes key) now) ≡ false
    → with_new (string_bytes key) value now ≡ Some (seen new)
put-seen key value es new now view is fresh = with_new-fresh (string_bytes key) value now fresh ∙ ap Some (ap (with (string_bytes key) value) (sym view) ∙ sym (with-seen key value es) ∙ ap seen (sym is))

-- ---- what a map with one entry more has at a key

own_by : {A : Type 0} (key : List ℕ) (value : A) (e : List ℕ × A) (es : TextMapView A) (o : Ordering) → slice_cmp nat_cmp key e.0 ≡ o → at key (with key value es) ≡ Some value
    → at key (match_ordering o ((key, value) ∷ e ∷ es) ((e.0, value) ∷ es) (e ∷ with key value es)) ≡ Some value
own_by key value e es Less is h = ap (λ o. cond (is_eq o) (Some value) (at key (e ∷ es))) (tied_itself nat_list_cmp_total key)
own_by key value e es Equal is h = ap (λ o. cond (is_eq o) (Some value) (at key es)) is
own_by key value e es Greater is h = ap (λ o. cond (is_eq o) (Some e.1) (at key (with key value es))) is ∙ h

pub at-with_own : {A : Type 0} (key : List ℕ) (value : A) (es : TextMapView A) → at key (with key value es) ≡ Some value
at-with_own key value [] = ap (λ o. cond (is_eq o) (Some value) None) (tied_itself nat_list_cmp_total key)
at-with_own key value (e ∷ es) = own_by key value e es (slice_cmp nat_cmp key e.0) refl (at-with_own key value es)

other_by : {A : Type 0} (q key : List ℕ) (value : A) (e : List ℕ × A) (es : TextMapView A) (o : Ordering) → slice_cmp nat_cmp key e.0 ≡ o → bytes_eq q key ≡ false → at q (with key value es) ≡ at q es
    → at q (match_ordering o ((key, value) ∷ e ∷ es) ((e.0, value) ∷ es) (e ∷ with key value es)) ≡ at q (e ∷ es)
other_by q key value e es Less is apart h = ap (λ b. cond b (Some value) (at q (e ∷ es))) (is_eq-slice_cmp q key ∙ apart)
other_by q key value e es Equal is apart h =
    let same : key ≡ e.0 = (bytes_eq-Decides key e.0).0 (sym (is_eq-slice_cmp key e.0) ∙ ap is_eq is) in
    let unlike : is_eq (slice_cmp nat_cmp q e.0) ≡ false = is_eq-slice_cmp q e.0 ∙ ap (bytes_eq q) (sym same) ∙ apart in
    ap (λ b. cond b (Some value) (at q es)) unlike ∙ sym (ap (λ b. cond b (Some e.1) (at q es)) unlike)
other_by q key value e es Greater is apart h = ap (cond (is_eq (slice_cmp nat_cmp q e.0)) (Some e.1)) h

pub at-with_other : {A : Type 0} (q key : List ℕ) (value : A) (es : TextMapView A) → bytes_eq q key ≡ false → at q (with key value es) ≡ at q es
at-with_other q key value [] apart = ap (λ b. cond b (Some value) None) (is_eq-slice_cmp q key ∙ apart)
at-with_other q key value (e ∷ es) apart = other_by q key value e es (slice_cmp nat_cmp key e.0) refl apart (at-with_other q key value es apart)
