-- Hosts come back one behind the other.
use Rattle.std.proofs.Common.{◌≡◌, ℕ, List, [], ◌∷◌, ◌++◌}
use Rattle.acc_host.specs.Hosts.{HostView}
use Rattle.acc_run.specs.Running.{CameBack, WentEach}
use Rattle.acc_run.specs.Tokens.{TokenView}

-- one more host behind the others
went_last : (devices : ℕ) (hs : List HostView) (ts : List TokenView) (is : List HostView) (us : List TokenView) (h : HostView) (t : TokenView) (i : HostView) (u : TokenView)
    → WentEach devices hs ts is us → CameBack devices h t i u → WentEach devices (hs ++ h ∷ []) (ts ++ t ∷ []) (is ++ i ∷ []) (us ++ u ∷ [])
went_last devices [] [] [] [] h t i u each last = (last, tt)
went_last devices (x ∷ hs) (y ∷ ts) (v ∷ is) (w ∷ us) h t i u each last = (each.0, went_last devices hs ts is us h t i u each.1 last)
went_last devices [] [] [] (w ∷ us) h t i u each last = absurd each
went_last devices [] [] (v ∷ is) us h t i u each last = absurd each
went_last devices [] (y ∷ ts) is us h t i u each last = absurd each
went_last devices (x ∷ hs) [] is us h t i u each last = absurd each
went_last devices (x ∷ hs) (y ∷ ts) [] us h t i u each last = absurd each
went_last devices (x ∷ hs) (y ∷ ts) (v ∷ is) [] h t i u each last = absurd each

-- a host behind those that have come back
pub went_end : (devices : ℕ) (all_h : List HostView) (all_t : List TokenView) (hs : List HostView) (ts : List TokenView) (h : HostView) (t : TokenView) (is : List HostView) (us : List TokenView) (i : HostView) (u : TokenView)
    (new_h : List HostView) (new_t : List TokenView) → all_h ≡ hs ++ h ∷ [] → all_t ≡ ts ++ t ∷ [] → WentEach devices hs ts is us → CameBack devices h t i u → new_h ≡ is ++ i ∷ [] → new_t ≡ us ++ u ∷ []
    → WentEach devices all_h all_t new_h new_t
went_end devices all_h all_t hs ts h t is us i u new_h new_t a b each last c d =
    rw (a, b, c, d) (went_last devices hs ts is us h t i u each last)

-- what a host's thread promised, of the host that was given to it
pub promised : (devices n : ℕ) (host h : HostView) (token t : TokenView) (back r : HostView × TokenView) → n ≡ devices → h ≡ host → t ≡ token → back ≡ r → CameBack n h t r.0 r.1 → CameBack devices host token back.0 back.1
promised devices n host h token t back r a b c d came = rw (← a, ← b, ← c, d) came

pub came_back : (devices : ℕ) (host : HostView) (token : TokenView) (back r : HostView × TokenView) → back ≡ r → CameBack devices host token r.0 r.1 → CameBack devices host token back.0 back.1
came_back devices host token back r d came = rw d came
