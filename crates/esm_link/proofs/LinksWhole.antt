-- Without a fault each module that the walk has left is closed.
use Rattle.std.proofs.Common.{◌≡◌, Bool, true, List, [], ◌∷◌, ◌++◌, None, subst, sym}
use Rattle.esm_realm.specs.Walk.{Mark}
use Rattle.esm_base.specs.Lists.{is_in, IsSameness}
use Rattle.esm_realm.specs.Components.{opened_before, opened_from}
use Rattle.esm_realm.proofs.OneWalk.{walk_one}
use Rattle.esm_realm.proofs.Lists.{either, in_left, in_right, in_split, in_first, in_cons, split_is}
use Rattle.esm_env.specs.Modules.{Modules}
use Rattle.esm_link.specs.Link.{targets, LinksMarks}
use Rattle.esm_link.specs.Link.LinksMarks.{done, enters, passes, stays, component}
use Rattle.esm_link.specs.Laws.{LinksWhole, entered}

module _ {N : Type 0} (same : N → N → Bool) (g : Modules N) (d : IsSameness same) where
  abbrev In : List N → N → Type 0
  In xs y = is_in same xs y ≡ true

  -- what was entered or is entered, and what is closed, is closed in the end
  record All (opened closed : List N) (ms : List (Mark N)) (after : List N) : Type 0 where
    opens : (y : N) → In opened y → In after y
    closes : (y : N) → In closed y → In after y
    enters_all : (y : N) → In (entered ms) y → In after y

  links_all : {opened closed : List N} {ms : List (Mark N)} {after : List N} → LinksMarks same g opened closed ms None after → All opened closed ms after
  links_all done = record { opens = λ y h. cc; closes = λ y h. h; enters_all = λ y h. cc }
  links_all (enters {opened = opened} {x = x} {ms = ms} p) =
      let a = links_all p in
      let new : In (opened ++ x ∷ []) x = in_right same d.own d.equal opened (x ∷ []) x (in_first same d.own d.equal x []) in
      record {
        opens = λ y h. a.opens y (in_left same d.own d.equal opened (x ∷ []) y h);
        closes = a.closes;
        enters_all = λ y h. either (in_cons same d.own d.equal x (entered ms) y h) (λ e. a.opens y (subst (λ z. In (opened ++ x ∷ []) z) (sym e) new)) (a.enters_all y);
      }
  links_all (passes p) = let a = links_all p in record { opens = a.opens; closes = a.closes; enters_all = a.enters_all }
  links_all (stays f c p) = let a = links_all p in record { opens = a.opens; closes = a.closes; enters_all = a.enters_all }
  links_all (component {opened = opened} {closed = closed} {x = x} f c p) =
      let a = links_all p in
      record {
        opens = λ y h. either (in_split same d.own d.equal (opened_before same opened x) (opened_from same opened x) y (subst (λ o. In o y) (sym (split_is same d.own d.equal opened x)) h))
            (a.opens y) (λ k. a.closes y (in_right same d.own d.equal closed (opened_from same opened x) y k));
        closes = λ y h. a.closes y (in_left same d.own d.equal closed (opened_from same opened x) y h);
        enters_all = a.enters_all;
      }

pub links_whole : (N : Type 0) → LinksWhole N
links_whole N same g closed after root marks d walk p x =
    let a = links_all same g d p.links in
    (a.closes x, λ h. a.enters_all x (subst (λ ms. is_in same (entered ms) x ≡ true) (walk_one same (targets g) walk p.walk) h))
