-- A batch joins those that a queue holds.
use Rattle.std.proofs.Common.{inl, inr, ◌≡◌, ℕ, zero, suc, ◌<◌, List, [], ◌∷◌, ◌++◌, length, refl, ap, ◌∙◌, arith}
use Rattle.std.proofs.lemmas.List.{append_assoc, length-append}
use Rattle.std.specs.Prelude.{slice_set}
use lib.ListN.{get_elem?}
use mathlib.Core.Option.{some}
use Rattle.acc_base.specs.declared.ids.QueueAt.{QueueAt}
use Rattle.acc_batch.specs.declared.label.Label.{Label}
use Rattle.acc_queue.specs.declared.rule.End.{End}
use Rattle.acc_queue.specs.declared.rule.Role.TheVariants.{Both, Sends, Takes}
use Rattle.acc_queue.specs.Tied.{AllFor, IsFor, Tied, end, no_queue}

-- one more
for_more : (at : QueueAt) (ls : List Label) (l : Label) → AllFor at ls → IsFor at l → AllFor at (ls ++ l ∷ [])
for_more at [] l all one = (one, tt)
for_more at (k ∷ ls) l all one = (all.0, for_more at ls l all.1 one)

abbrev Pushed : End → Label → ℕ → List Label → List End → Type 0
Pushed v b id items views = (x : End) × Tied (items ++ b ∷ []) (slice_set views id x) × (x ≡ end v.role v.at v.room (v.labels ++ b ∷ []))

-- The sender's end adds it, where there is room.
pub pushes : (v : End) (b : Label) (room id : ℕ) → v.role ≡ Sends → v.room ≡ room → IsFor v.at b
    → (items : List Label) (views : List End) → length items < room → Tied items views → get_elem? views id ≡ some v → Pushed v b id items views
pushes v b room id sends fits one items views low (inl u) at = by_id id (rw u.alone at at)
  where
    by_id : (k : ℕ) → get_elem? (end Both no_queue 0 [] ∷ []) k ≡ some v → Pushed v b id items views
    by_id zero e = cc
    by_id (suc k) e = cc
pushes v b room id sends fits one items views low (inr p) at = by_id id refl (rw p.two at at)
  where
    by_id : (k : ℕ) → id ≡ k → get_elem? (end Sends p.at p.room p.sent ∷ end Takes p.at p.room p.taken ∷ []) k ≡ some v → Pushed v b id items views
    by_id zero same e =
        let is : end Sends p.at p.room p.sent ≡ v = cc in
        rw (same, p.two, ← is) (
          end Sends p.at p.room (p.sent ++ b ∷ []),
          inr (record {
            at = p.at;
            room = p.room;
            sent = p.sent ++ b ∷ [];
            taken = p.taken;
            two = refl;
            in_order = ap (λ r. r ++ b ∷ []) p.in_order ∙ append_assoc p.taken items (b ∷ []);
            fits = omega (arith, low, fits, ap (λ (x : End). x.room) is, length-append items (b ∷ []));
            here = for_more p.at items b p.here (rw (← is) at one);
          }),
          refl,
        )
    by_id (suc zero) same e = cc
    by_id (suc (suc k)) same e = cc
