-- ECMA-262, InnerModuleLinking and InnerModuleEvaluation: the strongly connected components of a walk, told by its open modules.
-- The open modules are the algorithms' stack, the newest last: those that the walk has entered and whose component hasn't closed.
-- The standard's [[DFSAncestorIndex]] gets as low as the lowest open module to which a member of the component has a request.
use Rattle.std.specs.Prelude.{◌≡◌, ℕ, Bool, true, false, not, nat_eq, List, [], ◌∷◌, ◌++◌}
use Rattle.std.specs.List.{list_any}
use Rattle.esm_base.specs.Urls.{Url, same_url}
use Rattle.esm_realm.specs.Walk.{Mark, Enter, Pass, Leave, IsWalkOf}
use Rattle.esm_base.specs.Lists.{is_in}

module _ {N : Type 0} (same : N → N → Bool) where
  abbrev pub before_by : Bool → N → List N → List N
  before_by true y ys = []
  before_by false y ys = y ∷ ys

  -- the open modules that were entered before x
  abbrev pub opened_before : List N → N → List N
  opened_before [] x = []
  opened_before (y ∷ ys) x = before_by (same y x) y (opened_before ys x)

  abbrev pub onwards_by : Bool → List N → List N → List N
  onwards_by true whole later = whole
  onwards_by false whole later = later

  -- x and the open modules that were entered behind it: what InnerModuleLinking takes off the stack where the component of x closes
  abbrev pub opened_from : List N → N → List N
  opened_from [] x = []
  opened_from (y ∷ ys) x = onwards_by (same y x) (y ∷ ys) (opened_from ys x)

  -- a module of the first list has a target in the second
  abbrev pub leads_into : (N → List N) → List N → List N → Bool
  leads_into to xs ys = list_any (λ x. list_any (λ t. is_in same ys t) (to x)) xs

  -- at the Leave of x, [[DFSAncestorIndex]] of x is its [[DFSIndex]]: no open module from x on leads to one that was entered before x
  abbrev pub closes : (N → List N) → List N → N → Bool
  closes to opened x = not (leads_into to (opened_from opened x) (opened_before opened x))

  abbrev pub open_behind : Bool → List N → N → List N
  open_behind true opened x = opened_before opened x
  open_behind false opened x = opened

  -- the open modules after these marks
  abbrev pub opened_after : (N → List N) → List N → List (Mark N) → List N
  opened_after to opened [] = opened
  opened_after to opened (Enter x ∷ marks) = opened_after to (opened ++ x ∷ []) marks
  opened_after to opened (Pass x i ∷ marks) = opened_after to opened marks
  opened_after to opened (Leave x ∷ marks) = opened_after to (open_behind (closes to opened x) opened x) marks

-- x reaches y by requests whose modules weren't closed when the walk began
pub data ReachesOutside {N : Type 0} (same : N → N → Bool) (to : N → List N) (closed : List N) : N → N → Type 0 where
  itself : {x : N} → ReachesOutside same to closed x x
  step : {x t y : N} → is_in same (to x) t ≡ true → is_in same closed t ≡ false → ReachesOutside same to closed t y
      → ReachesOutside same to closed x y

-- the component of a module has the modules that it reaches and that reach it
abbrev pub InOneComponent : {N : Type 0} → (N → N → Bool) → (N → List N) → List N → N → N → Type 0
InOneComponent same to closed x y = ReachesOutside same to closed x y × ReachesOutside same to closed y x

-- where x is left: it is the root of its component, the member entered first, exactly where `closes` says so, and then just its members are taken
pub record ClosesAt {N : Type 0} (same : N → N → Bool) (to : N → List N) (closed opened : List N) (x : N) : Type 0 where
  -- no root: a member was entered before x and is open
  pub no_root : closes same to opened x ≡ false
      → (y : N) × (is_in same (opened_before same opened x) y ≡ true) × InOneComponent same to closed x y
  pub root : closes same to opened x ≡ true
      → (y : N) → is_in same (opened_before same opened x) y ≡ true → ¬ (InOneComponent same to closed x y)
  pub members : closes same to opened x ≡ true
      → (y : N) → (is_in same (opened_from same opened x) y ≡ true → InOneComponent same to closed x y)
      × (InOneComponent same to closed x y → is_in same (opened_from same opened x) y ≡ true)

-- wherever a walk leaves a module
abbrev pub ClosesAtRoot : {N : Type 0} → (N → N → Bool) → (N → List N) → List N → N → Type 0
ClosesAtRoot {N} same to closed root = (marks behind : List (Mark N)) (x : N)
    → IsWalkOf same to closed root (marks ++ Leave x ∷ behind) → ClosesAt same to closed (opened_after same to [] marks) x

-- ---- the law, over URLs and over the numbers of records

abbrev pub UrlsCloseAtRoot : Type 0
UrlsCloseAtRoot = (to : Url → List Url) (closed : List Url) (root : Url) → ClosesAtRoot same_url to closed root

abbrev pub NumbersCloseAtRoot : Type 0
NumbersCloseAtRoot = (to : ℕ → List ℕ) (closed : List ℕ) (root : ℕ) → ClosesAtRoot nat_eq to closed root
