-- What holds amid a walk of evaluation, and what keeps it.
use Rattle.std.proofs.Common.{◌≡◌, true, false, List, [], ◌∷◌, ◌++◌, Option, Some, None, refl, ap, subst, sym, ◌∙◌, inl, inr}
use Rattle.std.specs.Prelude.{◌⊎◌}
use Rattle.std.specs.Option.{unwrap_or}
use Rattle.esm_base.specs.Lists.{is_in}
use Rattle.esm_realm.proofs.Urls.{not_true, not_both}
use Rattle.esm_realm.proofs.Lists as lists
use Rattle.esm_realm.proofs.Lists.{either}
use Rattle.esm_eval.specs.Nodes.{Phase, NotEntered, Evaluating, EvaluatingAsync, Evaluated, was_entered}
use Rattle.esm_eval.specs.Evaluation.{Evaluation, IsLawful, IsAlike, phase, waits, waiters, is_done, is_stamped, root_of}
use Rattle.esm_eval.specs.Waiting.{HasOpenWait, IsBetweenCalls}

pub not_entered : (p : Phase) → was_entered p ≡ false → p ≡ NotEntered
not_entered NotEntered h = refl
not_entered Evaluating h = cc
not_entered EvaluatingAsync h = cc
not_entered Evaluated h = cc

pub some_is : {A : Type 0} {x y : A} → Some x ≡ Some y → x ≡ y
some_is h = cc

module _ {N V W : Type 0} (E : Evaluation N V W) where
  abbrev pub In : List N → N → Type 0
  In xs y = is_in E.same xs y ≡ true

  abbrev pub root_error : W → N → Option V
  root_error w x = (E.node w (root_of E w x)).error

  abbrev pub HasWait : W → N → Type 0
  HasWait w x = (y : N) × In (waits E w x) y

  -- v is like w in all but the promises, and more bodies may have begun
  pub record IsLike (w v : W) : Type 0 where
    pub phases : (y : N) → phase E v y ≡ phase E w y
    pub errors : (y : N) → (E.node v y).error ≡ (E.node w y).error
    pub roots : (y : N) → (E.node v y).cycle_root ≡ (E.node w y).cycle_root
    pub dones : (y : N) → is_done E v y ≡ is_done E w y
    pub all_waits : (y : N) → waits E v y ≡ waits E w y
    pub all_waiters : (y : N) → waiters E v y ≡ waiters E w y

  pub record HasGrown (w v : W) : Type 0 where
    pub stamps : E.stamps v ≡ E.stamps w
    pub begun : (y : N) → E.begun w y ≡ true → E.begun v y ≡ true

  -- amid a walk with these modules on the stack
  pub record Amid (w : W) (opened : List N) : Type 0 where
    pub open_is : (y : N) → phase E w y ≡ Evaluating → In opened y
    pub entered : (y : N) → In opened y → was_entered (phase E w y) ≡ true
    pub unstamped : (y : N) → phase E w y ≡ NotEntered → is_stamped E w y ≡ false
    pub new : (y : N) → phase E w y ≡ NotEntered → is_done E w y ≡ false
    pub free : (y : N) → phase E w y ≡ NotEntered → waits E w y ≡ []
    pub undone : (y : N) → phase E w y ≡ Evaluating → is_done E w y ≡ false
    pub shut : (y z : N) → In opened y → In (waits E w y) z → is_done E w z ≡ false
    pub moves : (y : N) → In opened y → is_stamped E w y ≡ true → (E.begun w y ≡ true) ⊎ HasWait w y
    pub stamped : (y : N) → phase E w y ≡ EvaluatingAsync → is_stamped E w y ≡ true
    pub joined : (x y : N) → In (waits E w x) y → In (waiters E w y) x
    pub waiting : (x : N) → phase E w x ≡ EvaluatingAsync → E.begun w x ≡ false → root_error w x ≡ None → HasOpenWait E w x

  pub of_between : (w : W) → IsBetweenCalls E w → Amid w []
  of_between w b = record {
    open_is = λ y h. absurd (b.idle y h);
    entered = λ y h. cc;
    unstamped = b.unstamped;
    new = b.undone;
    free = b.free;
    undone = λ y h. absurd (b.idle y h);
    shut = λ y z h. cc;
    moves = λ y h. cc;
    stamped = b.stamped;
    joined = b.joined;
    waiting = b.waiting;
  }

  pub to_between : (w : W) → Amid w [] → IsBetweenCalls E w
  to_between w a = record {
    idle = λ x h. let k = a.open_is x h in cc;
    unstamped = a.unstamped;
    undone = a.new;
    free = a.free;
    stamped = a.stamped;
    joined = a.joined;
    waiting = a.waiting;
  }

  pub root_error_like : (w v : W) → IsLike w v → (x : N) → root_error v x ≡ root_error w x
  root_error_like w v l x = l.errors (root_of E v x) ∙ ap (λ r. (E.node w (unwrap_or r x)).error) (l.roots x)

  pub begun_before : (w v : W) → HasGrown w v → (x : N) → E.begun v x ≡ false → E.begun w x ≡ false
  begun_before w v g x h = not_true (E.begun w x) (λ k. not_both (E.begun v x) (g.begun x k) h)

  pub stamped_like : (w v : W) → E.stamps v ≡ E.stamps w → (x : N) → is_stamped E v x ≡ is_stamped E w x
  stamped_like w v e x = ap (λ xs. is_in E.same xs x) e

  pub in_like : {xs ys : List N} (y : N) → xs ≡ ys → In xs y → In ys y
  in_like y e h = subst (λ zs. In zs y) e h

  pub like_on : (u v w : W) → IsLike u v → IsLike v w → IsLike u w
  like_on u v w k l = record {
    phases = λ y. l.phases y ∙ k.phases y;
    errors = λ y. l.errors y ∙ k.errors y;
    roots = λ y. l.roots y ∙ k.roots y;
    dones = λ y. l.dones y ∙ k.dones y;
    all_waits = λ y. l.all_waits y ∙ k.all_waits y;
    all_waiters = λ y. l.all_waiters y ∙ k.all_waiters y;
  }

  pub like_nodes : (w v : W) → ((y : N) → E.node v y ≡ E.node w y) → IsLike w v
  like_nodes w v e = record {
    phases = λ y. ap (λ n. n.phase) (e y);
    errors = λ y. ap (λ n. n.error) (e y);
    roots = λ y. ap (λ n. n.cycle_root) (e y);
    dones = λ y. ap (λ n. n.done) (e y);
    all_waits = λ y. ap (λ n. n.waits) (e y);
    all_waiters = λ y. ap (λ n. n.waiters) (e y);
  }

  pub grown_on : (u v w : W) → HasGrown u v → HasGrown v w → HasGrown u w
  grown_on u v w k l = record { stamps = l.stamps ∙ k.stamps; begun = λ y h. l.begun y (k.begun y h) }

  pub grown_alike : (w v : W) → IsAlike E w v → HasGrown w v
  grown_alike w v a = record { stamps = a.far.stamps; begun = λ y h. a.far.begun y ∙ h }

  pub open_wait_like : (w v : W) → IsLike w v → (x : N) → HasOpenWait E w x → HasOpenWait E v x
  open_wait_like w v l x h = (h.0, in_like _ (sym (l.all_waits x)) h.1, l.dones h.0 ∙ h.2)

  pub amid_like : (w v : W) (opened : List N) → IsLike w v → HasGrown w v → Amid w opened → Amid v opened
  amid_like w v opened l g a = record {
    open_is = λ y h. a.open_is y (sym (l.phases y) ∙ h);
    entered = λ y h. ap was_entered (l.phases y) ∙ a.entered y h;
    unstamped = λ y h. stamped_like w v g.stamps y ∙ a.unstamped y (sym (l.phases y) ∙ h);
    new = λ y h. l.dones y ∙ a.new y (sym (l.phases y) ∙ h);
    free = λ y h. l.all_waits y ∙ a.free y (sym (l.phases y) ∙ h);
    undone = λ y h. l.dones y ∙ a.undone y (sym (l.phases y) ∙ h);
    shut = λ y z h k. l.dones z ∙ a.shut y z h (in_like _ (l.all_waits y) k);
    moves = λ y h k. moves y (a.moves y h (sym (stamped_like w v g.stamps y) ∙ k));
    stamped = λ y h. stamped_like w v g.stamps y ∙ a.stamped y (sym (l.phases y) ∙ h);
    joined = λ x y h. in_like _ (sym (l.all_waiters y)) (a.joined x y (in_like _ (l.all_waits x) h));
    waiting = λ x h b e. open_wait_like w v l x (a.waiting x (sym (l.phases x) ∙ h) (begun_before w v g x b) (sym (root_error_like w v l x) ∙ e));
  }
    where
      moves : (y : N) → (E.begun w y ≡ true) ⊎ HasWait w y → (E.begun v y ≡ true) ⊎ HasWait v y
      moves y (inl b) = inl (g.begun y b)
      moves y (inr h) = inr (h.0, in_like _ (sym (l.all_waits y)) h.1)

  -- x gets an order, and its body begins or it waits
  pub amid_stamp : (w v : W) (opened : List N) (x : N) → IsLawful E → IsLike w v → E.stamps v ≡ E.stamps w ++ x ∷ [] → ((y : N) → E.begun w y ≡ true → E.begun v y ≡ true) → was_entered (phase E w x) ≡ true → (E.begun v x ≡ true) ⊎ HasWait v x → Amid w opened → Amid v opened
  amid_stamp w v opened x L l s g b m a = record {
    open_is = λ y h. a.open_is y (sym (l.phases y) ∙ h);
    entered = λ y h. ap was_entered (l.phases y) ∙ a.entered y h;
    unstamped = λ y h. not_true (is_stamped E v y) (λ k. either (split y k) (λ q. not_both (is_stamped E w y) q (a.unstamped y (sym (l.phases y) ∙ h))) (λ q. not_both (was_entered (phase E w x)) b (ap (λ z. was_entered (phase E w z)) (sym q) ∙ ap was_entered (sym (l.phases y) ∙ h))));
    new = λ y h. l.dones y ∙ a.new y (sym (l.phases y) ∙ h);
    free = λ y h. l.all_waits y ∙ a.free y (sym (l.phases y) ∙ h);
    undone = λ y h. l.dones y ∙ a.undone y (sym (l.phases y) ∙ h);
    shut = λ y z h k. l.dones z ∙ a.shut y z h (in_like _ (l.all_waits y) k);
    moves = λ y h k. either (split y k) (λ q. moves y (a.moves y h q)) (λ q. subst (λ z. (E.begun v z ≡ true) ⊎ HasWait v z) (sym q) m);
    stamped = λ y h. in_like _ (sym s) (lists.in_left E.same L.names.own L.names.equal (E.stamps w) (x ∷ []) y (a.stamped y (sym (l.phases y) ∙ h)));
    joined = λ x y h. in_like _ (sym (l.all_waiters y)) (a.joined x y (in_like _ (l.all_waits x) h));
    waiting = λ x h b e. open_wait_like w v l x (a.waiting x (sym (l.phases x) ∙ h) (not_true (E.begun w x) (λ k. not_both (E.begun v x) (g x k) b)) (sym (root_error_like w v l x) ∙ e));
  }
    where
      split : (y : N) → is_stamped E v y ≡ true → (is_stamped E w y ≡ true) ⊎ (y ≡ x)
      split y k = either (lists.in_split E.same L.names.own L.names.equal (E.stamps w) (x ∷ []) y (in_like _ s k)) inl (λ q. either (lists.in_cons E.same L.names.own L.names.equal x [] y q) inr (λ z. cc))

      moves : (y : N) → (E.begun w y ≡ true) ⊎ HasWait w y → (E.begun v y ≡ true) ⊎ HasWait v y
      moves y (inl b) = inl (g y b)
      moves y (inr h) = inr (h.0, in_like _ (sym (l.all_waits y)) h.1)
