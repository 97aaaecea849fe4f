use Rattle.std.proofs.Common.{rules, ap, ◌∙◌, sym, subst, ◌∷◌, length, Some}
use Rattle.atomic_table.specs.Table.{rest}
use Rattle.esm_hlock.specs.Inner.Growth.{MayGrow}
use Rattle.esm_hlock.specs.Inner.Steps.{story_in}
use Rattle.esm_hlock.proofs.Basics.Lists.{hand}
use Rattle.esm_hlock.proofs.Keeps.Stores.{stores_length, ends_turn}
use Rattle.esm_hlock.proofs.lock.Hlock.put_back.Goals as goal

pub exchange-requires : goal.exchange-requires
exchange-requires g c = let h = hand c.args.held.seat.me.1 c.args.held.holder.0 in (search rules, (h.0, h.1 ∙ ap (λ l. (0, h.0) ∷ rest l) (sym h.1)))

pub store-requires : goal.store-requires
store-requires g c = let h = hand c.args.held.seat.me.1 c.args.held.holder.0 in let e = c.exchange.ensures.3 in let story = g.T.Story.story in let maker = g.T.Story.maker in let state = c.args.held.state in (
  search rules,
  search rules,
  stores_length story maker _ _ _ state _ (ap (λ m. m.0.has_state) e ∙ c.args.held.holder.2) (ap (λ m. m.1) e ∙ ap (λ l. (0, Some state) ∷ rest l) h.1)
      (subst (λ v. MayGrow maker v.number v.seen (story state)) (sym (ap (λ m. m.0) e)) c.requires.grows) (ap length c.entries.ensures),
)

pub fetch_add-requires : goal.fetch_add-requires
fetch_add-requires g c = let h = hand c.args.held.seat.me.1 c.args.held.holder.0 in let e = c.exchange.ensures.3 in let story = g.T.Story.story in let maker = g.T.Story.maker in let state = c.args.held.state in
    let t = c.store.ensures.2.0 in let carried = ap (λ m. m.1) e ∙ ap (λ l. (0, Some state) ∷ rest l) h.1 in (
      search rules,
      search rules,
      ends_turn story maker _ _ _ state (ap (λ m. m.0.has_state) t) (ap (λ m. m.1) t ∙ carried) (ap (λ m. m.0.seen) t ∙ ap (story_in story maker) carried),
    )
