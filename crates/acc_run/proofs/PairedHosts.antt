-- Hosts, and the tokens that are their own.
use Rattle.std.proofs.Common.{◌≡◌, ◌+◌, List, [], ◌∷◌, ◌++◌, refl, sym, subst, ◌∙◌, arith}
use Rattle.acc_host.specs.Hosts.{HostView}
use Rattle.acc_run.specs.Running.{IsPaired, NewHostsArePaired, Paired}
use Rattle.acc_run.specs.Tokens.{TokenView}

no_host : (hs : List HostView) (h : HostView) → Paired (hs ++ h ∷ []) [] → ⊥
no_host [] h p = p
no_host (x ∷ hs) h p = p

no_token : (ts : List TokenView) (t : TokenView) → Paired [] (ts ++ t ∷ []) → ⊥
no_token [] t p = p
no_token (x ∷ ts) t p = p

-- the last host has the last token
pub record LastPaired (hs : List HostView) (ts : List TokenView) (h : HostView) (t : TokenView) : Type 0 where
  pub others : Paired hs ts
  pub last : IsPaired h t

paired_last : (hs : List HostView) (ts : List TokenView) (h : HostView) (t : TokenView) → Paired (hs ++ h ∷ []) (ts ++ t ∷ []) → LastPaired hs ts h t
paired_last [] [] h t p = record { others = tt; last = p.0 }
paired_last [] (x ∷ ts) h t p = absurd (no_token ts t p.1)
paired_last (x ∷ hs) [] h t p = absurd (no_host hs h p.1)
paired_last (x ∷ hs) (y ∷ ts) h t p = (let later = paired_last hs ts h t p.1 in record { others = (p.0, later.others); last = later.last })

-- of the last host and its token
pub last_of_paired : (all_h : List HostView) (all_t : List TokenView) (hs : List HostView) (ts : List TokenView) (h : HostView) (t : TokenView) → Paired all_h all_t → all_h ≡ hs ++ h ∷ [] → all_t ≡ ts ++ t ∷ [] → LastPaired hs ts h t
last_of_paired all_h all_t hs ts h t p a b = paired_last hs ts h t (subst (λ (y : List TokenView). Paired (hs ++ h ∷ []) y) b (subst (λ (x : List HostView). Paired x all_t) a p))

pub new_paired : NewHostsArePaired
new_paired n [] [] programs tokens many = tt
new_paired n [] (t ∷ ts) programs tokens many = absurd cc
new_paired n (p ∷ ps) [] programs tokens many = absurd cc
new_paired n (p ∷ ps) (t ∷ ts) programs tokens many =
    (record { own = tokens.0 ∙ sym programs.0; program = p; fresh = refl }, new_paired (n + 1) ps ts programs.1 tokens.2 (omega (arith, many)))
