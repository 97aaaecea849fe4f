-- What a visit amid a walk of linking does.
use Rattle.std.specs.Prelude.{◌≡◌, ◌<◌, ◌≤◌, ◌⊎◌, ℕ, suc, Bool, true, false, ◌||◌, cond, nat_eq, List, [], ◌∷◌, ◌++◌, length, slice_get, drop, Option, Some, None, Result, Ok, Err}
use Rattle.esm_base.specs.Lists.{is_in}
use Rattle.esm_base.specs.declared.end.End.{End}
use Rattle.esm_base.specs.declared.end.End.TheVariants.{Fault, Memory}
use Rattle.esm_base.specs.declared.limits.TheConstants.{MAX_URLS}
use Rattle.esm_tree.specs.Syntax.{Parts}
use Rattle.esm_realm.specs.declared.record.ModuleStatus.{ModuleStatus}
use Rattle.esm_realm.specs.declared.record.ModuleStatus.TheVariants as statuses
use Rattle.esm_realm.specs.Sound.{RecordParts}
use Rattle.esm_realm.specs.Walk.{Mark, Enter, Pass, Leave, Visits, Passes}
use Rattle.esm_realm.specs.Components.{closes, opened_before, opened_from}
use Rattle.esm_realm.specs.Places.{Low, Lowest}
use Rattle.esm_realm.specs.ById.{entries_at, loaded_at, targets_at, is_unlinked, is_linking}
use Rattle.esm_env.specs.Modules.{Modules}
use Rattle.esm_env.specs.Scopes.{Scopes, scope_in}
use Rattle.esm_link.specs.Faults.{FaultAt, FirstFault}
use Rattle.esm_link.specs.Realm.{modules_of, fault_of, AreTrees, IsLinkedScope}
use Rattle.esm_link.specs.declared.LinkFault.{LinkFault}

abbrev pub one_by : ModuleStatus → ℕ → ℕ
one_by statuses.Unlinked n = suc n
one_by status n = n

-- how many are Unlinked
abbrev pub unlinked : List RecordParts → ℕ
unlinked [] = 0
unlinked (r ∷ rs) = one_by r.status (unlinked rs)

-- at most MAX_URLS records with their trees, a place for each request, and what is loaded is among them
pub record IsWhole (trees : List Parts) (rs : List RecordParts) : Type 0 where
  pub few : length rs ≤ MAX_URLS
  pub inside : (x t : ℕ) → x < length rs → is_in nat_eq (targets_at rs x) t ≡ true → t < length rs
  pub as_many : (x : ℕ) → x < length rs → length (loaded_at rs x) ≡ length (entries_at rs x).requests
  pub trees_are : AreTrees trees rs

-- these are modules of the records
abbrev pub AreInside : List RecordParts → List ℕ → Type 0
AreInside rs xs = (y : ℕ) → is_in nat_eq xs y ≡ true → y < length rs

abbrev pub status_amid : Bool → Bool → ModuleStatus → ModuleStatus
status_amid true linked base = statuses.Linking
status_amid false true statuses.Unlinked = statuses.Linked
status_amid false true base = base
status_amid false false base = base

-- a place amid a walk: what was entered, is open and is linked, and the statuses over those before the walk
pub record Amid (size : ℕ) (base : ℕ → ModuleStatus) (seen opened linked : List ℕ) (status : ℕ → ModuleStatus)
    (index : ℕ → ℕ) : Type 0 where
  pub stand : (y : ℕ) → y < size → status y ≡ status_amid (is_in nat_eq opened y) (is_in nat_eq linked y) (base y)
  pub fresh : (y : ℕ) → is_in nat_eq opened y ≡ true → (y < size) × (base y ≡ statuses.Unlinked)
  pub places : (k y : ℕ) → slice_get opened k ≡ Some y → index y ≡ k
  pub old : (y : ℕ) → y < size → is_unlinked (base y) ≡ false → is_in nat_eq linked y ≡ true
  pub idle : (y : ℕ) → y < size → is_linking (base y) ≡ false
  pub apart : (y : ℕ) → is_in nat_eq opened y ≡ true → is_in nat_eq linked y ≡ false
  pub known : (y : ℕ) → is_in nat_eq seen y ≡ (is_in nat_eq opened y || is_in nat_eq linked y)

-- how a walk comes out: it ends, with a fault or with none, or it is broken off
pub data Outcome : Type 0 where
  Ends : (fault : Option (FaultAt ℕ)) → Outcome
  IsCut : Outcome

-- the marks of a walk over modules with these targets come to this outcome
pub data Links (g : Modules ℕ) (to : ℕ → List ℕ) : List ℕ → List ℕ → List (Mark ℕ) → Outcome → List ℕ → Type 0 where
  done : {linked : List ℕ} → Links g to [] linked [] (Ends None) linked
  cut : {opened linked : List ℕ} {ms : List (Mark ℕ)} → Links g to opened linked ms IsCut linked
  enters : {opened linked after : List ℕ} {x : ℕ} {ms : List (Mark ℕ)} {o : Outcome}
      → Links g to (opened ++ x ∷ []) linked ms o after → Links g to opened linked (Enter x ∷ ms) o after
  passes : {opened linked after : List ℕ} {x i : ℕ} {ms : List (Mark ℕ)} {o : Outcome}
      → Links g to opened linked ms o after → Links g to opened linked (Pass x i ∷ ms) o after
  fails : {opened linked : List ℕ} {x : ℕ} {ms : List (Mark ℕ)} {f : FaultAt ℕ} → FirstFault g x (Some f)
      → Links g to opened linked (Leave x ∷ ms) (Ends (Some f)) linked
  stays : {opened linked after : List ℕ} {x : ℕ} {ms : List (Mark ℕ)} {o : Outcome} → FirstFault g x None
      → closes nat_eq to opened x ≡ false → Links g to opened linked ms o after → Links g to opened linked (Leave x ∷ ms) o after
  component : {opened linked after : List ℕ} {x : ℕ} {ms : List (Mark ℕ)} {o : Outcome} → FirstFault g x None
      → closes nat_eq to opened x ≡ true
      → Links g to (opened_before nat_eq opened x) (linked ++ opened_from nat_eq opened x) ms o after
      → Links g to opened linked (Leave x ∷ ms) o after

abbrev pub outcome_of : End LinkFault → Outcome
outcome_of (Fault f) = Ends (Some (fault_of f))
outcome_of Memory = IsCut

module _ (trees : List Parts) (rs : List RecordParts) where
  abbrev pub Walking : List ℕ → List ℕ → List (Mark ℕ) → Outcome → List ℕ → Type 0
  Walking = Links (modules_of trees rs) (targets_at rs)

  -- the visit of x has come to its end: `added` are open above the others
  pub record Landed (base : ℕ → ModuleStatus) (opened linked : List ℕ) (x : ℕ) (marks : List (Mark ℕ)) (seen' : List ℕ)
      (low : ℕ) (status' : ℕ → ModuleStatus) (index' : ℕ → ℕ) (opened' : List ℕ) : Type 0 where
    pub added : List ℕ
    pub linked' : List ℕ
    pub now_is : opened' ≡ opened ++ added
    pub amid : Amid (length rs) base seen' opened' linked' status' index'
    pub low_is : Low (targets_at rs) opened added x low
    pub stands : (m : ℕ) → is_in nat_eq added m ≡ true → low < length opened
    -- where the rest of the marks leads somewhere, the whole leads there
    pub leads : (ms : List (Mark ℕ)) (o : Outcome) (after : List ℕ) → Walking opened' linked' ms o after
        → Walking opened linked (marks ++ ms) o after

  pub record Cut (base : ℕ → ModuleStatus) (status' : ℕ → ModuleStatus) (index' : ℕ → ℕ) (opened' linked' : List ℕ) : Type 0 where
    pub seen' : List ℕ
    pub amid : Amid (length rs) base seen' opened' linked' status' index'

  -- the visit of x ends early
  pub record Ended (base : ℕ → ModuleStatus) (opened linked : List ℕ) (marks : List (Mark ℕ)) (end : End LinkFault)
      (status' : ℕ → ModuleStatus) (index' : ℕ → ℕ) (opened' : List ℕ) : Type 0 where
    pub linked' : List ℕ
    pub cut : Cut base status' index' opened' linked'
    pub leads : (ms : List (Mark ℕ)) → Walking opened linked (marks ++ ms) (outcome_of end) linked'

  abbrev pub VisitingBy : (base : ℕ → ModuleStatus) (opened linked : List ℕ) (x : ℕ) (marks : List (Mark ℕ)) (seen' : List ℕ)
      → Result ℕ (End LinkFault) → (ℕ → ModuleStatus) → (ℕ → ℕ) → List ℕ → Type 0
  VisitingBy base opened linked x marks seen' (Ok low) = Landed base opened linked x marks seen' low
  VisitingBy base opened linked x marks seen' (Err end) = Ended base opened linked marks end

  -- for every walk that a visit of x is amid
  abbrev pub Visiting : (ℕ → ModuleStatus) → (ℕ → ℕ) → List ℕ → ℕ → Result ℕ (End LinkFault) → (ℕ → ModuleStatus) → (ℕ → ℕ)
      → List ℕ → Type 0
  Visiting status index opened x result status' index' opened' = (base : ℕ → ModuleStatus) (seen linked : List ℕ)
      → Amid (length rs) base seen opened linked status index → (marks : List (Mark ℕ)) (seen' : List ℕ)
      → Visits nat_eq (targets_at rs) seen x marks seen'
      → VisitingBy base opened linked x marks seen' result status' index' opened'

  -- amid the loop over the targets of x
  pub record Passed (base : ℕ → ModuleStatus) (opened linked : List ℕ) (x : ℕ) (inner : List (Mark ℕ)) (seen' : List ℕ)
      (now : ℕ → ModuleStatus) (places : ℕ → ℕ) (open_now : List ℕ) (i low : ℕ) : Type 0 where
    pub members : List ℕ
    pub linked_now : List ℕ
    pub seen_now : List ℕ
    pub rest : List (Mark ℕ)
    pub now_is : open_now ≡ opened ++ x ∷ members
    pub amid : Amid (length rs) base seen_now open_now linked_now now places
    pub left : Passes nat_eq (targets_at rs) seen_now x i (drop i (targets_at rs x)) rest seen'
    pub lowest : Lowest (targets_at rs) opened members x i low
    pub leads : (ms : List (Mark ℕ)) (o : Outcome) (after : List ℕ) → Walking open_now linked_now (rest ++ ms) o after
        → Walking (opened ++ x ∷ []) linked (inner ++ ms) o after

  abbrev pub Passing : (ℕ → ModuleStatus) → (ℕ → ℕ) → List ℕ → ℕ → (ℕ → ModuleStatus) → (ℕ → ℕ) → List ℕ → ℕ → ℕ → Type 0
  Passing status index opened x now places open_now i low = (base : ℕ → ModuleStatus) (seen linked : List ℕ)
      → Amid (length rs) base seen opened linked status index → (inner : List (Mark ℕ)) (seen' : List ℕ)
      → Passes nat_eq (targets_at rs) (x ∷ seen) x 0 (targets_at rs x) inner seen'
      → Passed base opened linked x inner seen' now places open_now i low

-- ---- statuses and scopes

-- the statuses with x open
abbrev pub with_open : ℕ → (ℕ → ModuleStatus) → ℕ → ModuleStatus
with_open x status y = cond (nat_eq y x) statuses.Linking (status y)

-- what has come to be open stands above what was: it was Unlinked, and is not
pub record IsAdded (status : ℕ → ModuleStatus) (opened added : List ℕ) (status' : ℕ → ModuleStatus) (opened' : List ℕ) : Type 0 where
  pub is : opened' ≡ opened ++ added
  pub fresh : (y : ℕ) → is_in nat_eq added y ≡ true → is_unlinked (status y) ≡ true
  pub open_now : (y : ℕ) → is_in nat_eq added y ≡ true → is_unlinked (status' y) ≡ false

abbrev pub Grown : (ℕ → ModuleStatus) → List ℕ → (ℕ → ModuleStatus) → List ℕ → Type 0
Grown status opened status' opened' = (added : List ℕ) × IsAdded status opened added status' opened'

-- the same amid the loop over the targets of x, which is open
abbrev pub GrownFrom : ℕ → (ℕ → ModuleStatus) → List ℕ → (ℕ → ModuleStatus) → List ℕ → Type 0
GrownFrom x status opened status' opened' = (members : List ℕ) × IsAdded status opened (x ∷ members) status' opened'

module _ (trees : List Parts) (rs : List RecordParts) where
  -- what has been entered between two places amid a walk: where it was left, it has its scope
  pub record Scoped (is_left : Bool) (status : ℕ → ModuleStatus) (scopes : Scopes) (status' : ℕ → ModuleStatus)
      (scopes' : Scopes) : Type 0 where
    pub grows : (y : ℕ) → is_unlinked (status y) ≡ false → is_unlinked (status' y) ≡ false
    pub still : (y : ℕ) → status y ≡ statuses.Linking → status' y ≡ statuses.Linking
    pub others : (y : ℕ) → is_unlinked (status y) ≡ false → scope_in scopes' y ≡ scope_in scopes y
    pub as_before : (y : ℕ) → (scope_in scopes' y ≡ scope_in scopes y) ⊎ IsLinkedScope trees rs y (scope_in scopes' y)
    pub linked : (y : ℕ) → is_unlinked (status y) ≡ true → status' y ≡ statuses.Linked → IsLinkedScope trees rs y (scope_in scopes' y)
    pub left : is_left ≡ true → (y : ℕ) → is_unlinked (status y) ≡ true → is_unlinked (status' y) ≡ false
        → IsLinkedScope trees rs y (scope_in scopes' y)

  abbrev pub ScopedBy : Result ℕ (End LinkFault) → (ℕ → ModuleStatus) → Scopes → (ℕ → ModuleStatus) → Scopes → Type 0
  ScopedBy (Ok low) = Scoped true
  ScopedBy (Err end) = Scoped false
