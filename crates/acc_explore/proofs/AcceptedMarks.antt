-- What accepted directives have marked on each device is legal.
use Rattle.std.proofs.Common.{◌≡◌, ℕ, Bool, cond, List, ◌∷◌, None, refl, subst}
use Rattle.std.proofs.lemmas.Bool.{eq-eqb}
use Rattle.acc_base.specs.Configurations.{Configuration}
use Rattle.acc_place.specs.Accepting.{refusal}
use Rattle.acc_place.specs.declared.directive.PlaceEntry.{PlaceEntry}
use Rattle.acc_place.specs.declared.directive.PlaceEntry.TheVariants as noted
use Rattle.acc_place.specs.Directives.{Directive}
use Rattle.acc_place.specs.Histories.{AllAccepted, standing}
use Rattle.acc_place.specs.Standings.{marks_behind, walk_of}
use Rattle.acc_place.proofs.DirectivesCounted.{accepted_counted}
use Rattle.acc_present.specs.Legality.{AllLegal}

pub marks_legal : (config : Configuration) (history : List PlaceEntry) (counts : List ℕ) → AllAccepted config history counts → (device : ℕ) → AllLegal ((standing config history counts).marks device)
marks_legal config history counts all device = (accepted_counted config history counts device all).legal

-- so is what one directive more marks
pub behind_legal : (config : Configuration) (history : List PlaceEntry) (counts : List ℕ) (host : ℕ) (d : Directive) → AllAccepted config history counts
    → refusal config (standing config history counts) host d ≡ None
    → AllLegal (marks_behind ((standing config history counts).marks (walk_of (standing config history counts) host d).device) (walk_of (standing config history counts) host d))
unfolding standing
behind_legal config history counts host d all accepted =
    let st = standing config history counts in
    let walk = walk_of st host d in
    subst (λ (b : Bool). AllLegal (cond b (marks_behind (st.marks walk.device) walk) (st.marks walk.device))) (eq-eqb walk.device walk.device refl)
    (marks_legal config (noted.Accepted host d ∷ history) (0 ∷ counts) (accepted, all) walk.device)
