-- What a call changes of what the history has of its caller, from what it found.
use Rattle.std.proofs.Common.{◌≡◌, ℕ, ◌<◌, Bool, true, false, cond, List, [], ◌∷◌, ◌++◌, refl, ap, ◌∙◌, subst, arith, append_assoc, append-nil, Option, Some, slice_get, Result, Ok, Err}
use Rattle.std.specs.Arc.{arc_value}
use Rattle.std.specs.declared.sync.Arc.{Arc}
use Rattle.std.specs.declared.alloc.Global.{Global}
use Rattle.esm_base.specs.declared.memory.Memory.{Memory}
use Rattle.esm_hlock.specs.Makers as all
use Rattle.esm_hlock.specs.Makers.{times, names}
use Rattle.esm_base.specs.Urls.{Url}
use Rattle.esm_module_map.specs.declared.event.Why.{Why}
use Rattle.esm_module_map.specs.declared.event.MapEvent.{MapEvent}
use Rattle.esm_module_map.specs.declared.event.MapEvent.TheVariants.{Enrol, Ask, Take, Post, Shut}
use Rattle.esm_module_map.specs.declared.reply.Asked.{Asked}
use Rattle.esm_module_map.specs.declared.reply.MapEnd.{MapEnd}
use Rattle.esm_module_map.specs.declared.reply.MapEnd.TheVariants as end
use Rattle.esm_module_map.specs.declared.reply.Taken.{Taken}
use Rattle.esm_module_map.specs.declared.reply.Taken.TheVariants as taken
use Rattle.esm_module_map.specs.Replay.{Replay, opening, replay, is_legal, maker_of, number_for}
use Rattle.esm_module_map.specs.Replies.{ContinuesFor, number_in, Called, AskReply, TakeReply, ShutReply}
use Rattle.esm_module_map.specs.Histories.{along, asks_in, takes_in, answers_in, shuts_in, asks_by, takes_by, answers_by, shuts_by}
use Rattle.esm_module_map.specs.Saying.{SaysNothing, Begins, Stays, ShutSays, IsShut, IsOrderIn, PostedOne, AskedOne, TakeSays, AskSays}
use Rattle.esm_module_map.proofs.Replays.{eq_true, replay_more}
use Rattle.esm_module_map.proofs.Calls.{unnamed}
use Rattle.esm_module_map.proofs.Told.{IsOf, along_split, along_others, after_take, after_post, after_nothing, after_shut, order_taken, url_more, along_more, asks_of_one, takes_of_one, answers_of_one, shuts_of_one}
use Rattle.esm_module_map.proofs.AskedNumbers.{ask_numbers}

module _ {P G : Type 0} (weight : P → ℕ) where
  begins_more : (seen found now more : List (MapEvent P G)) (n : Option ℕ) → ContinuesFor maker_of found seen n → now ≡ found ++ more → Begins seen now
  begins_more seen found now more n q is = (q.0 ++ more, is ∙ ap (λ l. l ++ more) q.1 ∙ append_assoc seen q.0 more)

  begins_same : (seen found now : List (MapEvent P G)) (n : Option ℕ) → ContinuesFor maker_of found seen n → now ≡ found → Begins seen now
  begins_same seen found now n q is = (q.0, is ∙ q.1)

  pub stays : (c : ℕ) (seen found now : List (MapEvent P G)) → ContinuesFor maker_of found seen (Some c) → now ≡ found → Stays weight c seen now
  stays c seen found now q is = (begins_same seen found now (Some c) q is, after_nothing weight c seen found now q is)

  pub same_says : (c : ℕ) (seen now : List (MapEvent P G)) → Called weight seen (Some c) (λ found. now ≡ found) → Stays weight c seen now
  same_says c seen now (found, (ok, q), is) = stays c seen found now q is

  pub shut_says : (c : ℕ) (seen now : List (MapEvent P G)) → Called weight seen (Some c) (λ found. ShutReply weight found c now) → ShutSays weight c seen now × IsShut weight now
  shut_says c seen now (found, (ok, q), is) = ((by_test (replay weight found).shut is, after_shut weight c seen found now q is), shut_by (replay weight found).shut refl is)
    where
      by_test : (b : Bool) → now ≡ cond b found (found ++ Shut c ∷ []) → Begins seen now
      by_test true e = begins_same seen found now (Some c) q e
      by_test false e = begins_more seen found now (Shut c ∷ []) (Some c) q e

      shut_by : (b : Bool) → (replay weight found).shut ≡ b → now ≡ cond b found (found ++ Shut c ∷ []) → IsShut weight now
      shut_by true e is = ap (λ h. (replay weight h).shut) is ∙ e
      shut_by false e is = ap (λ h. (replay weight h).shut) is ∙ ap (λ (r : Replay). r.shut) (replay_more weight opening found (Shut c))

  pub take_says : (c : ℕ) (seen now : List (MapEvent P G)) (r : Result Taken Memory) → is_legal weight now ≡ true → Called weight seen (Some c) (λ found. TakeReply weight found c r now) → TakeSays weight c seen r now
  take_says c seen now (Ok (taken.Order order)) legal (found, (ok, q), (is, at)) = let a = after_take weight c order.number order.url seen found now q is at in record {
    begins = begins_more seen found now (Take c order.number ∷ []) (Some c) q is;
    takes = a.0;
    answers = a.1;
    asks = a.2;
    shuts = a.3;
    order = record { order = order_taken weight c order.number found now legal is; has_url = url_more weight order.number order.url found now (Take c order.number) is at };
  }
  take_says c seen now (Ok taken.NotYet) legal (found, (ok, q), r) = stays c seen found now q r.0
  take_says c seen now (Ok taken.Closed) legal (found, (ok, q), r) = (stays c seen found now q r.0, ap (λ h. (replay weight h).shut) r.0 ∙ r.1)
  take_says c seen now (Err want) legal (found, (ok, q), r) = stays c seen found now q r

  pub post_says : (c n : ℕ) (url : Url) (p : Arc P Global) (seen now : List (MapEvent P G)) → IsOrderIn weight seen c n url → Called weight seen (Some c) (λ found. now ≡ found ++ Post c n p ∷ []) → PostedOne weight c n url (arc_value p) seen now
  post_says c n url p seen now order (found, (legal, q), is) = let a = after_post weight c n url p seen found now legal q is order.has_url in record {
    begins = begins_more seen found now (Post c n p ∷ []) (Some c) q is;
    takes = a.0;
    answers = a.1;
    asks = a.2;
    shuts = a.3;
  }

  asks_one : (e : MapEvent P G) (c n : ℕ) (s : Replay) (u : Url) (why : Why) → e ≡ Ask c n u why → asks_in c s e ≡ u ∷ []
  asks_one e c n s u why is = ap (asks_in c s) is ∙ ap (λ t. cond t (u ∷ []) []) (eq_true c c refl)

  pub asked_one : (c n : ℕ) (url : Url) (why : Why) (asked : Asked) (seen found now : List (MapEvent P G)) → ContinuesFor maker_of found seen (Some c) → now ≡ found ++ Ask c n url why ∷ [] → slice_get (replay weight now).urls (number_in asked) ≡ Some url → AskedOne weight c url asked seen now
  asked_one c n url why asked seen found now q is has = record {
    begins = begins_more seen found now (Ask c n url why ∷ []) (Some c) q is;
    takes = along_more weight c (takes_in c) (takes_of_one weight c) seen found now (Ask c n url why) q is ∙ append-nil (takes_by weight c seen);
    answers = along_more weight c (answers_in c) (answers_of_one weight c) seen found now (Ask c n url why) q is ∙ append-nil (answers_by weight c seen);
    asks = along_more weight c (asks_in c) (asks_of_one weight c) seen found now (Ask c n url why) q is ∙ ap (λ l. asks_by weight c seen ++ l) (asks_one (Ask c n url why) c n (replay weight found) url why refl);
    shuts = along_more weight c (shuts_in c) (shuts_of_one weight c) seen found now (Ask c n url why) q is ∙ append-nil (shuts_by weight c seen);
    has_url = has;
  }

  pub ask_says : (c : ℕ) (url : Url) (why : Why) (seen now : List (MapEvent P G)) (r : Result Asked MapEnd) → Called weight seen (Some c) (λ found. AskReply weight found c url why r now) → AskSays weight c seen url r now
  ask_says c url why seen now (Ok asked) (found, (ok, q), r) = asked_one c (number_for (replay weight found) url) url why asked seen found now q r.0 (ask_numbers weight c url why found now asked r)
  ask_says c url why seen now (Err end.Full) (found, (ok, q), r) = stays c seen found now q r.0
  ask_says c url why seen now (Err end.Closed) (found, (ok, q), r) = stays c seen found now q r.0
  ask_says c url why seen now (Err end.Memory) (found, (ok, q), r) = stays c seen found now q r

  -- who is listed does nothing behind what was seen
  pub listed_says : (ns : List ℕ) (seen h : List (MapEvent P G)) → all.Continues maker_of h seen ns → (c : ℕ) → 0 < times c ns → Stays weight c seen h
  listed_says ns seen h q c listed = stays c seen h h (q.0, q.1, λ k e. let is : c ≡ k = cc in subst (λ (x : ℕ). names maker_of x q.0 ≡ 0) is (q.2 c listed)) refl

  -- who has just enrolled has said nothing
  pub new_says : (c : ℕ) (found now : List (MapEvent P G)) → is_legal weight found ≡ true → c ≡ (replay weight found).callers → now ≡ found ++ Enrol c ∷ [] → SaysNothing weight c now
  new_says c found now legal is more = let none = unnamed weight opening found c legal (omega (arith, is)) in (
    part (takes_in c) none (takes_of_one weight c) (λ s. refl),
    part (answers_in c) none (answers_of_one weight c) (λ s. refl),
    part (asks_in c) none (asks_of_one weight c) (λ s. refl),
    part (shuts_in c) none (shuts_of_one weight c) (λ s. refl),
  )
    where
      part : {A : Type 0} (says : Replay → MapEvent P G → List A) → names maker_of c found ≡ 0 → IsOf weight c says → ((s : Replay) → says s (Enrol c) ≡ []) → along weight says opening now ≡ []
      part says none of said = ap (along weight says opening) more ∙ along_split weight says opening found (Enrol c ∷ []) ∙ ap (λ l. l ++ (says (replay weight found) (Enrol c) ++ [])) (along_others weight c says of opening found none) ∙ ap (λ l. l ++ []) (said (replay weight found))
