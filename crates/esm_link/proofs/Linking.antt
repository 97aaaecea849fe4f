-- Linking as a whole.
use Rattle.std.proofs.Common.{◌≡◌, ℕ, suc, zero, ◌+◌, ◌<◌, ◌≤◌, Bool, true, false, not, cond, List, [], ◌∷◌, ◌++◌, length, map, get_or, Option, Some, None, Ok, Err, refl, ap, subst, sym, ◌∙◌, arith, nat_eq, nat_lt, ltb-true, ltb-false}
use Rattle.std.specs.Prelude.{slice_get, All, IfSome}
use Rattle.std.proofs.lemmas.List.{append-nil}
use Rattle.std.proofs.lemmas.Option.{slice_get-get_or}
use Rattle.esm_base.specs.Lists.{is_in}
use Rattle.esm_base.specs.Urls.{Text}
use Rattle.esm_base.specs.declared.limits.TheConstants.{MAX_URLS}
use Rattle.esm_base.specs.declared.module_id.ModuleId.{ModuleId}
use Rattle.esm_base.specs.declared.end.End.{End}
use Rattle.esm_base.specs.declared.end.End.TheVariants.{Fault, Memory}
use Rattle.esm_tree.specs.Syntax.{Parts}
use Rattle.esm_ast.specs.Entries.{entries_of}
use Rattle.esm_realm.specs.declared.record.ModuleStatus.{ModuleStatus}
use Rattle.esm_realm.specs.declared.record.ModuleStatus.TheVariants as statuses
use Rattle.esm_realm.specs.Laws.{AreDistinct}
use Rattle.esm_realm.specs.Sound.{RecordParts, IsSound, IsSoundRecord, AreLoaded, url_of}
use Rattle.esm_realm.specs.Walk.{Mark, Visits}
use Rattle.esm_realm.specs.ById.{status_of, entries_by, loaded_by, loaded_at, loaded_id, target_by, target_at, targets_at, is_unlinked, is_linking, without_status}
use Rattle.esm_realm.proofs.ByIds.{holds_at}
use Rattle.esm_realm.proofs.NumberWalks.{number_walk}
use Rattle.esm_realm.proofs.Numbers.{In, in_first, has_at, place_of}
use Rattle.esm_realm.proofs.Lists.{either}
use Rattle.esm_realm.proofs.Urls.{cases}
use Rattle.esm_env.specs.Modules.{Modules}
use Rattle.esm_link.specs.Faults.{FaultAt}
use Rattle.esm_link.specs.Link.{targets, targets_from, LinksMarks, LinksPart, IsLinking, IsCutLinking}
use Rattle.esm_link.specs.Realm.{modules_of, items_at, items_by, AreTrees, fault_of, AreClosed, relinked, IsRelinked, LinkedAs}
use Rattle.esm_link.specs.declared.LinkFault.{LinkFault}
use Rattle.esm_link.specs.Inner.Graph.{IsInside}
use Rattle.esm_link.specs.Inner.Visit.{IsWhole, status_amid, Amid, Cut, Outcome, Ends, IsCut, Links, Visiting, Walking}
use Rattle.esm_link.specs.Inner.Visit.Links.{done, cut, enters, passes, fails, stays, component}
use Rattle.esm_link.proofs.Trees.{past, no_items}
use Rattle.esm_link.proofs.Marking.{length_plain, plain_modules, same_length, trees_plain}

-- ---- sound realms

get_plain : (rs : List RecordParts) (k : ℕ) (r : RecordParts) → slice_get rs k ≡ Some r → slice_get (map without_status rs) k ≡ Some (without_status r)
get_plain [] k r e = cc
get_plain (s ∷ rs) zero r e = let same : s ≡ r = cc in ap (λ r. Some (without_status r)) same
get_plain (s ∷ rs) (suc k) r e = get_plain rs k r e

get_back : (rs : List RecordParts) (k : ℕ) (p : RecordParts) → slice_get (map without_status rs) k ≡ Some p → (r : RecordParts) × (slice_get rs k ≡ Some r) × (without_status r ≡ p)
get_back [] k p e = cc
get_back (s ∷ rs) zero p e = let same : without_status s ≡ p = cc in (s, refl, same)
get_back (s ∷ rs) (suc k) p e = get_back rs k p e

all_on : (Q : RecordParts → Type 0) (xs ys : List RecordParts) → map without_status xs ≡ map without_status ys → ((r : RecordParts) → Q r → Q (without_status r)) → ((r : RecordParts) → Q (without_status r) → Q r) → All Q ys → All Q xs
all_on Q xs ys e down up h k d lt =
    let r = get_or xs k d in
    let b = get_back ys k (without_status r) (ap (λ rs. slice_get rs k) (sym e) ∙ get_plain xs k r (slice_get-get_or xs k d lt)) in
    up r (subst Q b.2 (down b.0 (holds_at Q ys k b.0 h b.1)))

plain_urls : (rs : List RecordParts) → map url_of (map without_status rs) ≡ map url_of rs
plain_urls [] = refl
plain_urls (r ∷ rs) = ap (λ us. r.url ∷ us) (plain_urls rs)

pub sound_on : (xs ys : List RecordParts) → map without_status xs ≡ map without_status ys → IsSound ys → IsSound xs
sound_on xs ys e s = record {
  few = subst (λ n. n ≤ MAX_URLS) (sym (same_length xs ys e)) s.few;
  differ = subst AreDistinct (sym (sym (plain_urls xs) ∙ ap (map url_of) e ∙ plain_urls ys)) s.differ;
  each = all_on (λ (r : RecordParts). IsSoundRecord r.url r.entries r.targets) xs ys e (λ r h. h) (λ r h. h) s.each;
  loaded = all_on (λ (r : RecordParts). AreLoaded (length xs) r.entries r.loaded) xs ys e (λ r h. h) (λ r h. h) (subst (λ n. All (λ (r : RecordParts). AreLoaded n r.entries r.loaded) ys) (sym (same_length xs ys e)) s.loaded);
}

get_at : (rs : List RecordParts) (x : ℕ) → x < length rs → (r : RecordParts) × (slice_get rs x ≡ Some r)
get_at [] x lt = absurd (omega arith)
get_at (r ∷ rs) zero lt = (r, refl)
get_at (r ∷ rs) (suc x) lt = get_at rs x (omega arith)

get_loaded : (ls : List (Option ModuleId)) (k t : ℕ) → slice_get (map loaded_id ls) k ≡ Some t → (l : Option ModuleId) × (slice_get ls k ≡ Some l) × (loaded_id l ≡ t)
get_loaded [] k t e = cc
get_loaded (l ∷ ls) zero t e = let same : loaded_id l ≡ t = cc in (l, refl, same)
get_loaded (l ∷ ls) (suc k) t e = get_loaded ls k t e

id_inside : (l : Option ModuleId) (n : ℕ) → 0 < n → IfSome l (λ m. m.0 < n) → loaded_id l < n
id_inside None n lt h = lt
id_inside (Some m) n lt h = h

pub sound_records : (trees : List Parts) (rs : List RecordParts) → IsSound rs → AreTrees trees rs → IsWhole trees rs
sound_records trees rs s t = record {
  few = s.few;
  inside = λ x t lt h.
      let r = get_at rs x lt in
      let a = holds_at (λ (r : RecordParts). AreLoaded (length rs) r.entries r.loaded) rs x r.0 s.loaded r.1 in
      let p = place_of (map loaded_id r.0.loaded) t (subst (λ o. In (map loaded_id (loaded_by o)) t) r.1 h) in
      let l = get_loaded r.0.loaded p.place t p.is in
      subst (λ t. t < length rs) l.2 (id_inside l.0 (length rs) (omega (arith, lt)) (holds_at (λ (l : Option ModuleId). IfSome l (λ m. m.0 < length rs)) r.0.loaded p.place l.0 a.inside l.1));
  as_many = λ x lt.
      let r = get_at rs x lt in
      let a = holds_at (λ (r : RecordParts). AreLoaded (length rs) r.entries r.loaded) rs x r.0 s.loaded r.1 in
      ap (λ o. length (loaded_by o)) r.1 ∙ a.as_many ∙ ap (λ o. length (entries_by o).requests) (sym r.1);
  trees_are = t;
}

plain_plain : (rs : List RecordParts) → map without_status (map without_status rs) ≡ map without_status rs
plain_plain [] = refl
plain_plain (r ∷ rs) = ap (λ ps. without_status r ∷ ps) (plain_plain rs)

pub sound_whole : (trees : List Parts) (rs : List RecordParts) → IsSound rs → AreTrees trees rs → IsWhole trees (map without_status rs)
sound_whole trees rs s t = sound_records trees (map without_status rs) (sound_on (map without_status rs) rs (plain_plain rs) s) (trees_plain trees rs t)

-- ---- the modules of all requests

targets_list : (g : Modules ℕ) (x i : ℕ) (ls : List (Option ModuleId)) (qs : List Text) → length ls ≡ length qs
    → ((k : ℕ) → target_by (slice_get ls k) ≡ g.target x (i + k)) → targets_from g x i qs ≡ map loaded_id ls
targets_list g x i [] [] e h = refl
targets_list g x i [] (q ∷ qs) e h = absurd (omega (arith, e))
targets_list g x i (l ∷ ls) [] e h = absurd (omega (arith, e))
targets_list g x i (l ∷ ls) (q ∷ qs) e h =
    let zero_is : i + 0 ≡ i = omega arith in
    let here : g.target x i ≡ loaded_id l = sym (h 0 ∙ ap (g.target x) zero_is) in
    let later = targets_list g x (suc i) ls qs (omega (arith, e)) (λ k. let next : i + suc k ≡ suc i + k = omega arith in h (suc k) ∙ ap (g.target x) next) in
    λ j. here j ∷ later j

pub targets_are : (trees : List Parts) (rs : List RecordParts) → IsWhole trees rs → (x : ℕ) → targets (modules_of trees rs) x ≡ targets_at rs x
targets_are trees rs w x = either (cases (nat_lt x (length rs))) (λ t. near (ltb-true x (length rs) t)) (λ f. far (ltb-false x (length rs) f))
  where
    near : x < length rs → targets (modules_of trees rs) x ≡ targets_at rs x
    near lt = targets_list (modules_of trees rs) x 0 (loaded_at rs x) (entries_of (items_at trees x)).requests (w.as_many x lt ∙ ap (λ e. length e.requests) (w.trees_are.entries x lt)) (λ k. let e : 0 + k ≡ k = omega arith in ap (target_at rs x) (sym e))

    far : length rs ≤ x → targets (modules_of trees rs) x ≡ targets_at rs x
    far le =
        let no_tree = past trees x (subst (λ n. n ≤ x) (sym w.trees_are.as_many) le) in
        ap (λ o. targets_from (modules_of trees rs) x 0 (entries_of (items_by o)).requests) no_tree
        ∙ ap (λ es. targets_from (modules_of trees rs) x 0 es.requests) no_items ∙ ap (λ o. map loaded_id (loaded_by o)) (sym (past rs x le))

get_map : (ls : List (Option ModuleId)) (i : ℕ) (l : Option ModuleId) → slice_get ls i ≡ Some l → slice_get (map loaded_id ls) i ≡ Some (loaded_id l)
get_map [] i l e = cc
get_map (m ∷ ls) zero l e = let same : m ≡ l = cc in ap (λ l. Some (loaded_id l)) same
get_map (m ∷ ls) (suc i) l e = get_map ls i l e

pub inside_of : (trees : List Parts) (rs : List RecordParts) → IsWhole trees rs → IsInside trees rs
inside_of trees rs w = record { target = inside; trees_are = w.trees_are }
  where
    inside : (x i : ℕ) → x < length rs → target_at rs x i < length rs
    inside x i lt = by (slice_get (loaded_at rs x) i) refl
      where
        by : (o : Option (Option ModuleId)) → slice_get (loaded_at rs x) i ≡ o → target_by o < length rs
        by None e = omega (arith, lt)
        by (Some l) e = w.inside x (loaded_id l) lt (has_at (targets_at rs x) i (loaded_id l) (get_map (loaded_at rs x) i l e))

-- ---- the walk exists

walk : (trees : List Parts) (rs : List RecordParts) (closed : List ℕ) (root : ℕ) → IsWhole trees rs → root < length rs → (marks : List (Mark ℕ)) × (after : List ℕ) × Visits nat_eq (targets_at rs) closed root marks after
walk trees rs closed root w lt = number_walk (targets_at rs) (length rs) w.inside closed root lt

-- ---- the marks of the definitions

module _ (g : Modules ℕ) where
  same_end : {a b : Option (FaultAt ℕ)} → Ends a ≡ Ends b → a ≡ b
  same_end e = cc

  not_cut : {C : Type 0} {a : Option (FaultAt ℕ)} → Ends a ≡ IsCut → C
  not_cut e = cc

  ends : {opened linked after : List ℕ} {ms : List (Mark ℕ)} {o : Outcome} → Links g (targets g) opened linked ms o after
      → (f : Option (FaultAt ℕ)) → o ≡ Ends f → LinksMarks nat_eq g opened linked ms f after
  ends {after = after} done f e = subst (λ f. LinksMarks nat_eq g [] after [] f after) (same_end e) LinksMarks.done
  ends cut f e = not_cut (sym e)
  ends (enters p) f e = LinksMarks.enters (ends p f e)
  ends (passes p) f e = LinksMarks.passes (ends p f e)
  ends {opened} {linked} {after} {ms} (fails h) f e = subst (λ f. LinksMarks nat_eq g opened linked ms f after) (same_end e) (LinksMarks.fails h)
  ends (stays h c p) f e = LinksMarks.stays h c (ends p f e)
  ends (component h c p) f e = LinksMarks.component h c (ends p f e)

  parts : {opened linked after : List ℕ} {ms : List (Mark ℕ)} {o : Outcome} → Links g (targets g) opened linked ms o after
      → o ≡ IsCut → LinksPart nat_eq g opened linked ms after
  parts done e = not_cut e
  parts cut e = LinksPart.cut
  parts (enters p) e = LinksPart.enters (parts p e)
  parts (passes p) e = LinksPart.passes (parts p e)
  parts (fails h) e = not_cut e
  parts (stays h c p) e = LinksPart.stays h c (parts p e)
  parts (component h c p) e = LinksPart.component h c (parts p e)

-- ---- before and after

closed_stand : (b : ModuleStatus) → b ≡ status_amid false (not (is_unlinked b)) b
closed_stand statuses.New = refl
closed_stand statuses.Unlinked = refl
closed_stand statuses.Linking = refl
closed_stand statuses.Linked = refl

amid_relinked : (l : Bool) (b : ModuleStatus) → status_amid false l b ≡ relinked l b
amid_relinked true statuses.New = refl
amid_relinked true statuses.Unlinked = refl
amid_relinked true statuses.Linking = refl
amid_relinked true statuses.Linked = refl
amid_relinked false b = refl

cut_relinked : (o l : Bool) (b : ModuleStatus) → (o ≡ true → (b ≡ statuses.Unlinked) × (l ≡ false)) → cond o statuses.Unlinked (status_amid o l b) ≡ relinked l b
cut_relinked true true b h = let e = (h refl).1 in cc
cut_relinked true false b h = sym (h refl).0
cut_relinked false l b h = amid_relinked l b

module _ (trees : List Parts) (rs : List RecordParts) (index : ℕ → ℕ) (root : ℕ) (lt : root < length (map without_status rs)) (whole : IsWhole trees (map without_status rs)) (idle : (x : ℕ) → x < length rs → is_linking (status_of rs x) ≡ false) (closed : List ℕ) (are : AreClosed rs closed) where
  abbrev base : ℕ → ModuleStatus
  base = status_of rs

  start : Amid (length (map without_status rs)) base closed [] closed base index
  start = record {
    stand = λ y l. closed_stand (base y) ∙ ap (λ b. status_amid false b (base y)) (sym (are y (subst (λ n. y < n) (length_plain rs) l)));
    fresh = λ y h. cc;
    places = λ k y e. cc;
    old = λ y l h. are y (subst (λ n. y < n) (length_plain rs) l) ∙ ap not h;
    idle = λ y l. idle y (subst (λ n. y < n) (length_plain rs) l);
    apart = λ y h. cc;
    known = λ y. refl;
  }

  the_walk : (marks : List (Mark ℕ)) × (after : List ℕ) × Visits nat_eq (targets_at (map without_status rs)) closed root marks after
  the_walk = walk trees (map without_status rs) closed root whole lt

  -- the modules as the code has them are those of the definitions
  abbrev plain_g : Modules ℕ
  plain_g = modules_of trees (map without_status rs)

  same_targets : targets_at (map without_status rs) ≡ targets plain_g
  same_targets = λ i x. sym (targets_are trees (map without_status rs) whole x) i

  all_marks : (o : Outcome) (after : List ℕ) → Walking trees (map without_status rs) [] closed (the_walk.0 ++ []) o after → Links plain_g (targets plain_g) [] closed the_walk.0 o after
  all_marks o after h = subst (λ to. Links plain_g to [] closed the_walk.0 o after) same_targets (subst (λ ms. Walking trees (map without_status rs) [] closed ms o after) (append-nil the_walk.0) h)

  linking : (f : Option (FaultAt ℕ)) (after : List ℕ) → Walking trees (map without_status rs) [] closed (the_walk.0 ++ []) (Ends f) after → IsLinking nat_eq (modules_of trees rs) closed root f after
  linking f after h = subst (λ g. IsLinking nat_eq g closed root f after) (plain_modules trees rs) (record {
    marks = the_walk.0;
    walk = (the_walk.1, subst (λ to. Visits nat_eq to closed root the_walk.0 the_walk.1) same_targets the_walk.2);
    links = ends plain_g (all_marks (Ends f) after h) f refl;
  })

  cut_linking : (after : List ℕ) → Walking trees (map without_status rs) [] closed (the_walk.0 ++ []) IsCut after → IsCutLinking nat_eq (modules_of trees rs) closed root after
  cut_linking after h = subst (λ g. IsCutLinking nat_eq g closed root after) (plain_modules trees rs) (record {
    marks = the_walk.0;
    walk = (the_walk.1, subst (λ to. Visits nat_eq to closed root the_walk.0 the_walk.1) same_targets the_walk.2);
    part = parts plain_g (all_marks IsCut after h) refl;
  })

  module _ (new : List RecordParts) (rest : map without_status new ≡ map without_status rs) (index' : ℕ → ℕ) (opened' : List ℕ) where
    none_of : (low : ℕ) (added : List ℕ) → ((m : ℕ) → In added m → low < 0) → added ≡ []
    none_of low [] h = refl
    none_of low (m ∷ added) h = let lt = h m (in_first m added) in absurd (omega (arith, lt))

    pub linked_ok : (low : ℕ) → Visiting trees (map without_status rs) base index [] root (Ok low) (status_of new) index' opened' → LinkedAs trees rs closed root (Ok tt) new
    linked_ok low v =
        let l = v base closed closed start the_walk.0 the_walk.1 the_walk.2 in
        let none : opened' ≡ [] = l.now_is ∙ none_of low l.added l.stands in (
          l.linked',
          linking None l.linked' (l.leads [] (Ends None) l.linked' (subst (λ o. Walking trees (map without_status rs) o l.linked' [] (Ends None) l.linked') (sym none) Links.done)),
          record {
            status = λ x k. l.amid.stand x (subst (λ n. x < n) (sym (length_plain rs)) k) ∙ ap (λ o. status_amid (is_in nat_eq o x) (is_in nat_eq l.linked' x) (base x)) none ∙ amid_relinked (is_in nat_eq l.linked' x) (base x);
            rest = rest;
          },
        )

    module _ (last : List RecordParts) (last_rest : map without_status last ≡ map without_status new) (marked : (y : ℕ) → status_of last y ≡ cond (is_in nat_eq opened' y) statuses.Unlinked (status_of new y)) where
      relinked_cut : (linked' : List ℕ) → Cut trees (map without_status rs) base (status_of new) index' opened' linked' → IsRelinked rs linked' last
      relinked_cut linked' c = record {
        status = λ x k. marked x ∙ ap (λ s. cond (is_in nat_eq opened' x) statuses.Unlinked s) (c.amid.stand x (subst (λ n. x < n) (sym (length_plain rs)) k)) ∙ cut_relinked (is_in nat_eq opened' x) (is_in nat_eq linked' x) (base x) (λ h. ((c.amid.fresh x h).1, c.amid.apart x h));
        rest = last_rest ∙ rest;
      }

      pub linked_err : (end : End LinkFault) → Visiting trees (map without_status rs) base index [] root (Err end) (status_of new) index' opened' → LinkedAs trees rs closed root (Err end) last
      linked_err (Fault g) v =
          let l = v base closed closed start the_walk.0 the_walk.1 the_walk.2 in
          (l.linked', linking (Some (fault_of g)) l.linked' (l.leads []), relinked_cut l.linked' l.cut)
      linked_err Memory v =
          let l = v base closed closed start the_walk.0 the_walk.1 the_walk.2 in
          (l.linked', cut_linking l.linked' (l.leads []), relinked_cut l.linked' l.cut)
