-- What a turn of a worker leads to.
use Rattle.std.proofs.Common.{◌≡◌, ◌⊎◌, inl, inr, ℕ, true, List, [], ◌∷◌, ◌++◌, map, sym, ap, ◌∙◌, subst, append_assoc, append-nil, arith, Option, Some, None, Result, Ok, Err}
use Rattle.std.specs.Prelude.{All, IfOk, IfSome, OnOk}
use Rattle.std.proofs.lemmas.List.Elements.{All-nil, All-cons, All-append}
use Rattle.std.proofs.lemmas.List.{map-append}
use Rattle.esm_base.specs.declared.memory.Memory.{Memory}
use Rattle.esm_ports.specs.declared.asked.Asked.{Asked}
use Rattle.esm_ports.specs.declared.asked.AskKind.{AskKind}
use Rattle.esm_ports.specs.declared.asked.AskKind.TheVariants.{Body}
use Rattle.esm_ports.specs.Asks.{asks_with}
use Rattle.esm_base.specs.Urls.{Url}
use Rattle.esm_module_map.specs.declared.event.MapEvent.{MapEvent}
use Rattle.esm_module_map.specs.declared.reply.Taken.{Taken}
use Rattle.esm_module_map.specs.Histories.{Answer, asks_by, takes_by, answers_by, shuts_by}
use Rattle.esm_module_map.specs.Replies.{Called, TakeReply}
use Rattle.esm_import_map.specs.ImportMap.{Maps}
use Rattle.esm_specifier.specs.Targets.{AreTargets}
use Rattle.esm_specifier.specs.Laws.{TargetsAreTested}
use Rattle.esm_specifier.specs.declared.targets.Targets.{Targets}
use Rattle.esm_module_map.specs.Leading.{guide_in}
use Rattle.esm_module_map.specs.Fitting.{FitsIn}
use Rattle.esm_module_map.specs.Saying.{Begins, SaysSame, IsOrderIn, TookOne, TakeSays}
use Rattle.esm_fetch.specs.declared.posted.Posted.{Posted}
use Rattle.esm_tree.specs.Syntax.{Item}
use Rattle.esm_ast.specs.Entries.{EntryLists, entries_of, entries_with, requests_of}
use Rattle.esm_fetch.specs.Answered.{Contents, kind_of, is_ahead}
use Rattle.esm_fetch.specs.declared.working.Turned.{Turned}
use Rattle.esm_fetch.specs.declared.working.Turned.TheVariants as turned
use Rattle.esm_fetch.specs.Serving.{weight, fits, outcome_in, url_in, ask_for, IsTrueAnswer, IsServed, IsCut, Serves, Served, ServedBy, ShutBy, TurnSays}
use Rattle.esm_fetch.specs.Inner.Asking.{IsAsking, FilledWith, FilledBy}

module _ {G : Type 0} where
  pub begins_here : (a : List (MapEvent Posted G)) → Begins a a
  begins_here a = ([], sym (append-nil a))

  pub begins_on : (a b c : List (MapEvent Posted G)) → Begins a b → Begins b c → Begins a c
  begins_on a b c p q = (p.0 ++ q.0, q.1 ∙ ap (λ l. l ++ q.0) p.1 ∙ append_assoc a p.0 q.0)

pub served_on : (holds : Option Contents) (asked after : List Asked) (takes takes' : List Url) (answers answers' : List (Answer Posted)) (a : Answer Posted)
    → IsAsking holds asked takes answers a.url → takes' ≡ takes → answers' ≡ answers ++ a ∷ [] → after ≡ asks_with asked a.url (kind_of (outcome_in a)) → IsTrueAnswer holds a → IsServed holds after takes' answers'
served_on holds asked after takes takes' answers answers' a (t, k, all) same more grew is_true = record {
  answered = subst (All (IsTrueAnswer holds)) (sym more) (All-append (IsTrueAnswer holds) answers (a ∷ []) all (All-cons (IsTrueAnswer holds) a [] is_true (All-nil (IsTrueAnswer holds))));
  asked_is = grew ∙ ap (λ l. asks_with l a.url (kind_of (outcome_in a))) k ∙ sym (map-append ask_for answers (a ∷ [])) ∙ ap (map ask_for) (sym more);
  takes_is = same ∙ t ∙ sym (map-append url_in answers (a ∷ [])) ∙ ap (map url_in) (sym more);
}

pub cut_short : (holds : Option Contents) (asked after : List Asked) (takes takes' : List Url) (answers answers' : List (Answer Posted)) (url : Url)
    → IsAsking holds asked takes answers url → takes' ≡ takes → answers' ≡ answers → (after ≡ asked) ⊎ ((kind : AskKind) × (after ≡ asks_with asked url kind)) → IsCut 1 holds after takes' answers'
cut_short holds asked after takes takes' answers answers' url (t, k, all) same same_answers grew = record {
  answered = subst (All (IsTrueAnswer holds)) (sym same_answers) all;
  url = url;
  asked_is = by_end grew;
  rest = [];
  few = omega arith;
  takes_is = same ∙ t ∙ ap (λ l. map url_in l ++ url ∷ []) (sym same_answers);
}
  where
    by_end : (after ≡ asked) ⊎ ((kind : AskKind) × (after ≡ asks_with asked url kind)) → (after ≡ map ask_for answers') ⊎ ((kind : AskKind) × (after ≡ asks_with (map ask_for answers') url kind))
    by_end (inl e) = inl (e ∙ k ∙ ap (map ask_for) (sym same_answers))
    by_end (inr (kind, e)) = inr (kind, e ∙ ap (λ l. asks_with l url kind) (k ∙ ap (map ask_for) (sym same_answers)))

pub served_same : (holds : Option Contents) (asked : List Asked) (takes takes' : List Url) (answers answers' : List (Answer Posted)) → takes' ≡ takes → answers' ≡ answers → IsServed holds asked takes answers → IsServed holds asked takes' answers'
served_same holds asked takes takes' answers answers' t a s = record {
  answered = subst (All (IsTrueAnswer holds)) (sym a) s.answered;
  asked_is = s.asked_is ∙ ap (map ask_for) (sym a);
  takes_is = t ∙ s.takes_is ∙ ap (map url_in) (sym a);
}

module _ {G : Type 0} where
  -- after a Take the source is still to be asked; the caller's number is written in two ways
  pub asking_from : (holds : Option Contents) (asked : List Asked) (c d n : ℕ) (url : Url) (seen now : List (MapEvent Posted G)) → d ≡ c → TookOne weight c n url seen now → Serves holds asked c seen → IsAsking holds asked (takes_by weight d now) (answers_by weight d now) url
  asking_from holds asked c d n url seen now same t s = subst (λ m. IsAsking holds asked (takes_by weight m now) (answers_by weight m now) url) (sym same) (
    t.takes ∙ ap (λ l. l ++ url ∷ []) s.takes_is ∙ ap (λ l. map url_in l ++ url ∷ []) (sym t.answers),
    s.asked_is ∙ ap (map ask_for) (sym t.answers),
    subst (All (IsTrueAnswer holds)) (sym t.answers) s.answered,
  )

  pub order_as : (c d n : ℕ) (url : Url) (now : List (MapEvent Posted G)) → d ≡ c → IsOrderIn weight now c n url → IsOrderIn weight now d n url
  order_as c d n url now same o = subst (λ m. IsOrderIn weight now m n url) (sym same) o

  pub asks_on : (c d : ℕ) (a b e : List (MapEvent Posted G)) → d ≡ c → asks_by weight c b ≡ asks_by weight c a → asks_by weight d e ≡ asks_by weight d b → asks_by weight c e ≡ asks_by weight c a
  asks_on c d a b e same first then_ = subst (λ m. asks_by weight m e ≡ asks_by weight m b) same then_ ∙ first

  pub served_as : {T : Type 0} (r : Result T Memory) (holds : Option Contents) (asked : List Asked) (c d : ℕ) (now : List (MapEvent Posted G)) → d ≡ c → ServedBy r holds asked d now → ServedBy r holds asked c now
  served_as r holds asked c d now same s = subst (λ m. ServedBy r holds asked m now) same s

  pub serves_same : (holds : Option Contents) (asked : List Asked) (c : ℕ) (seen now : List (MapEvent Posted G)) → SaysSame weight c seen now → Serves holds asked c seen → Serves holds asked c now
  serves_same holds asked c seen now same s = served_same holds asked _ _ _ _ same.0 same.1 s

  -- a take that found no memory, and the Shut behind it
  pub gave_up : (holds : Option Contents) (asked : List Asked) (c d : ℕ) (seen mid now : List (MapEvent Posted G)) → d ≡ c → SaysSame weight c seen mid → takes_by weight d now ≡ takes_by weight d mid → answers_by weight d now ≡ answers_by weight d mid → Serves holds asked c seen → Serves holds asked c now
  gave_up holds asked c d seen mid now same s t a r = let t' = subst (λ m. takes_by weight m now ≡ takes_by weight m mid) same t in let a' = subst (λ m. answers_by weight m now ≡ answers_by weight m mid) same a in
      served_same holds asked (takes_by weight c seen) (takes_by weight c now) (answers_by weight c seen) (answers_by weight c now) (t' ∙ s.0) (a' ∙ s.1) r

pub with_kind : (asked after : List Asked) (url u : Url) → u ≡ url → (after ≡ asked) ⊎ (after ≡ asks_with asked u Body) → (after ≡ asked) ⊎ ((kind : AskKind) × (after ≡ asks_with asked url kind))
with_kind asked after url u same (inl e) = inl e
with_kind asked after url u same (inr e) = inr (Body, e ∙ ap (λ v. asks_with asked v Body) same)

module _ {G : Type 0} where
  -- what a take says, where its result is written in another way
  pub says_as : (c : ℕ) (seen now : List (MapEvent Posted G)) (r s : Result Taken Memory) → r ≡ s → TakeSays weight c seen r now → TakeSays weight c seen s now
  says_as c seen now r s same says = subst (λ (x : Result Taken Memory). TakeSays weight c seen x now) same says

  -- what the take was answered, where its result is written in another way
  pub called_as : (c : ℕ) (seen now : List (MapEvent Posted G)) (r s : Result Taken Memory) → r ≡ s → Called weight seen (Some c) (λ found. TakeReply weight found c r now) → Called weight seen (Some c) (λ found. TakeReply weight found c s now)
  called_as c seen now r s same call = subst (λ (x : Result Taken Memory). Called weight seen (Some c) (λ found. TakeReply weight found c x now)) same call

  -- a turn that took something
  pub turn_filled : (c d m : ℕ) (url : Url) (seen mid now : List (MapEvent Posted G)) (r : Result Turned Memory) → d ≡ c → TookOne weight c m url seen mid → FilledBy d url mid r now → ShutBy r now → TurnSays c seen r now
  turn_filled c d m url seen mid now (Ok (turned.Posted n)) same t f s = let h = subst (λ k. FilledWith k n url mid now) same f in record {
    answer = h.answer;
    number_is = h.number_is;
    takes = h.takes ∙ t.takes ∙ ap (λ u. takes_by weight c seen ++ u ∷ []) (sym h.url_is);
    answers = h.answers ∙ ap (λ l. l ++ h.answer ∷ []) t.answers;
  }
  turn_filled c d m url seen mid now (Ok turned.NotYet) same t f s = absurd f
  turn_filled c d m url seen mid now (Ok turned.Closed) same t f s = absurd f
  turn_filled c d m url seen mid now (Err want) same t f s = s

  -- a turn that went well shuts nothing
  pub shuts_on : {T : Type 0} (r : Result T Memory) (c d : ℕ) (a b e : List (MapEvent Posted G)) → d ≡ c → shuts_by weight c b ≡ shuts_by weight c a → OnOk r (shuts_by weight d e ≡ shuts_by weight d b) → OnOk r (shuts_by weight c e ≡ shuts_by weight c a)
  shuts_on (Ok t) c d a b e same first more = subst (λ m. shuts_by weight m e ≡ shuts_by weight m b) same more ∙ first
  shuts_on (Err want) c d a b e same first more = tt

  pub shuts_next : (c d : ℕ) (a b e : List (MapEvent Posted G)) → d ≡ c → shuts_by weight c b ≡ shuts_by weight c a → shuts_by weight d e ≡ shuts_by weight d b → shuts_by weight c e ≡ shuts_by weight c a
  shuts_next c d a b e same first more = subst (λ m. shuts_by weight m e ≡ shuts_by weight m b) same more ∙ first

-- what fits by the guide fits in a history that begins with it
pub fits_by_guide : (seen : List (MapEvent Posted Maps)) (maps : Maps) (p : Posted) (u : Url) → guide_in seen ≡ Some maps → fits maps p u ≡ true → FitsIn fits seen p u
fits_by_guide seen maps p u at ok = λ guide is. let same : Some maps ≡ Some guide = sym at ∙ is in let one : maps ≡ guide = cc in subst (λ m. fits m p u ≡ true) one ok

module _ {G : Type 0} where
  -- a worker ends for want of memory
  pub short_end : (holds held : Option Contents) (asked : List Asked) (c d : ℕ) (now : List (MapEvent Posted G)) → held ≡ holds → d ≡ c → Served 4 held asked d now → Served 4 holds asked c now
  short_end holds held asked c d now same number s = subst (λ h. Served 4 h asked c now) same (subst (λ m. Served 4 held asked m now) number s)

-- what was resolved ahead of the same requests, written in another way
pub ahead_as : (maps : Maps) (url : Url) (requests others : List Url) (r : Result (Option Targets) Memory) → requests ≡ others
    → IfOk r (λ targets. is_ahead maps url requests targets ≡ true) → IfOk r (λ targets. is_ahead maps url others targets ≡ true)
ahead_as maps url requests others r same are = subst (λ l. IfOk r (λ targets. is_ahead maps url l targets ≡ true)) same are

-- what the test says of what was resolved ahead
pub resolved_ahead : TargetsAreTested → (maps : Maps) (url : Url) (requests : List Url) (ahead : Option Targets) → is_ahead maps url requests ahead ≡ true → IfSome ahead (AreTargets maps url requests)
resolved_ahead tested maps url requests (Some targets) ok = (tested maps url requests targets).0 ok
resolved_ahead tested maps url requests None ok = tt

-- the requests of the entries are those of the tree
pub requests_are : (e : EntryLists) (items : List Item) → e ≡ entries_of items → e.requests ≡ requests_of items
unfolding entries_of entries_with
requests_are e items is = ap (λ (f : EntryLists). f.requests) is
