-- `two` has the row lent as a slice, and two windows of that slice. Assumes `Logic`.
use Rattle.std.proofs.Common.{◌≡◌, List, [], ◌∷◌, length, refl, sym, ap, subst, ◌∙◌}
use Rattle.std.specs.Prelude.{ℤ}
use base.Logic.{id⊢, emp}
use base.Fml.{ftrue, flft}
use mir.Syntax.{named}
use mir.Val.{Val, WT}
use contract.Monad.{fact, fact_i}
use contract.Running.{tables}
use types.Kit.{‵, raw, ◌⊛◌, some, later, ◌$◌, ◌∵◌, !, qed, by, move, keep, drop as let_go, use0, use1, use2, split, split3, join, pick, rewrite, await, fjoin}
use types.Run.{enter, addr, stop, no_more, and_then, returns}
use types.ByLocal.{alloc_all, pass_all, free_all, look_at, get, through, sets, lands_as}
use denote.Array.{Array}
use denote.Builtin.{i64}
use denote.Exit.{yes, no}
use denote.Follow.{follows, follows_both}
use denote.Laws.{shows}
use denote.Ref.{MutBor, MutRef, mut_vals, mut_Tells}
use denote.Signature.{plain}
use denote.Slice.{MutSlice, slice_val, mut_slice_vals, mut_slice_Tells}
use denote.Steps.{nothing, heard, peeks, only}
use denote.Struct.Laws.{vals, tells}
use denote.Struct.Loose.{loose_lawful}
use denote.Triple.Call.{calls_at}
use denote.Triple.Clauses.{Lasts, lasts}
use denote.Triple.Spec.{triple_of}
use denote.Triple.Table.{framed}
use denote.Triple.Walked.{Stays, walk_of, stay_dropped, Goes-dropped, Goes-spent_ref}
use Rattle.std.proofs.raw_atomic.Walks.{proved, leaves}
use Rattle.std.specs.List.{refill}
use Rattle.acc_raw.specs.declared.cells.Window.{Window}
use Rattle.acc_raw.specs.Windows.{IsWithin, AreApart, cells_in, with_both, with_windows}
use Rattle.acc_raw.specs.contracts.cells.Cells.{the_row}
use Rattle.acc_raw.specs.contracts.cells.Window as window
use Rattle.acc_raw.specs.contracts.cells.Cells.two as f
use Rattle.acc_raw.specs.contracts.cells.Cells.as_mut_slice as whole
use Rattle.acc_raw.specs.contracts.cells.windows as parts
use Rattle.acc_raw.proofs.cells.Cells.as_mut_slice.Met as whole_met
use Rattle.acc_raw.proofs.cells.windows.Met as parts_met
use Rattle.acc_raw.proofs.cells.Window.TheLaws.{the_laws, the_loose}
use Rattle.acc_raw.proofs.cells.Cells.two.Statement.{statement}
use Rattle.acc_raw.proofs.cells.Cells.two.Code as code
use Rattle.acc_raw.proofs.TwoParts.{Pair, pair_word, pair_tells, ends_by, follows_on}

abbrev stayed : Stays f.ended.signature.params f.ended.kept
stayed = (stay_dropped _ no, (stay_dropped _ yes, (stay_dropped _ yes, tt)))

pub two_spec : {M : Type 1} → statement M
two_spec 𝓤 𝓛 𝓜 𝓡 wired =
    let promised = f.clauses 𝓛 𝓜.mem 𝓡.returns in let Walk = walk_of 𝓛 f.ended stayed promised in let table = tables 𝓤 𝓛.H 𝓜 𝓡 𝓡.env in
    let words_of = vals window.the_type the_laws in let told = tells window.the_type the_laws in let well_typed = (loose_lawful window.the_type the_loose 𝓛).typed in
    let goes = Goes-dropped 𝓛 1 (plain (λ _. window.the_row)) yes (λ κs x w. refl) in
    proved 𝓛 f.ended stayed promised 𝓜 𝓡 (Goes-spent_ref 𝓛 1 (0 ∷ []) tt (plain (λ _. the_row)), (goes, (goes, tt)))
    f.Key.name code.function (code.unfolded 𝓤 𝓛.H 𝓜 𝓡 wired) (λ κs. (mut_vals, (words_of, (words_of, tt)))) (λ κs. (mut_Tells (named 0) κs.0 the_row, (told, (told, tt)))) (λ κs qs bounds args g values.
    let κ = κs.0 in let q = qs.0 in let r = args.0 in let v : Window = args.1.0 in let w : Window = args.1.1.0 in
    let Slice = MutSlice (named 0) κ i64 in let Two = Pair 𝓛 (named 0) κ in
    let Lender = triple_of 𝓛 whole.signature (whole.spec 𝓛 𝓜.mem 𝓡.returns) in let Parts = triple_of 𝓛 parts.signature (parts.spec 𝓛 𝓜.mem 𝓡.returns) in
    let entry : Walk.Ghost = ((κs, qs, bounds, args, (mut_vals r, (words_of v, (words_of w, tt)))), g) in
    qed 𝓛 (((‵ (flft κ q) ⊛ ‵ ftrue) ⊛ ‵ ((MutRef (named 0) κ the_row).own_val r (mut_vals r)) ⊛ ‵ (window.the_row.own_val v (words_of v)) ⊛ ‵ (window.the_row.own_val w (words_of w)) ⊛ ‵ ftrue)
    ∷ (raw (fact 𝓤 (IsWithin (length r.now) v)) ⊛ raw (fact 𝓤 (IsWithin (length r.now) w)) ⊛ raw (fact 𝓤 (AreApart v w))) ∷ []) ∵
    move ! (1 ∷ []) $ split3 ! $ heard ! _ (λ in_v. heard ! _ (λ in_w. heard ! _ (λ apart. split ! $ split ! $ move ! (2 ∷ []) $ split ! $ keep ! (0 ∷ 1 ∷ 2 ∷ []) $
    -- [the row; the windows; the token]
    let wt_v = well_typed v _ values.1.0 in let wt_w = well_typed w _ values.1.1.0 in
    enter ! _ _ _ _ _ $ alloc_all ! (λ spots. pass_all ! refl ((tt, tt), (wt_v.0, (wt_w.0, tt))) $
    let lent : Lender.Ghost = ((κs, qs, bounds, (r, tt), (mut_vals r, tt)), tt) in
    sets ! (addr ! (through ! refl (stop !))) refl (tt, tt) $
    nothing ! $ move ! (1 ∷ 0 ∷ []) $ join ! $ nothing ! $ move ! (3 ∷ 0 ∷ []) $ join ! $ join ! $ nothing ! $ move ! (1 ∷ 0 ∷ []) $ use2 𝓛 (raw (Lender.pre lent)) (id⊢ 𝓤 _) $
    calls_at ! (framed 𝓤 𝓛.H 𝓜 table) Lender (whole_met.met 𝓤 𝓛 𝓜 𝓡 (code.calls-acc_raw::cells::Cells::as_mut_slice 𝓡.env wired)) lent (and_then ! (get ! refl) (no_more !)) (λ u.
    use1 𝓛 (later (some (λ (s : MutBor (List ℤ)). ((‵ (flft κ q) ⊛ ‵ ftrue) ⊛ ‵ (Slice.own_val s (u ∷ []))) ⊛
    some (λ (ws : Lasts whole.ended κs (r, tt)). ‵ (lasts whole.ended κs (r, tt) ws) ⊛ raw (fact 𝓤 (s.now ≡ r.now)) ⊛ ‵ (follows the_row (Array i64 0) r.ghost_name s.ghost_name (refill (length r.now) r.now)))))) (id⊢ 𝓤 _) $
    await ! tt $ pick ! (λ s. split ! $ split ! $ split ! $ move ! (3 ∷ []) $ pick ! (λ ws. split ! $ let_go ! $ split ! $ heard ! _ (λ same.
    -- [what the row ends as; the token; nothing; the slice; the windows; the locals]
    move ! (2 ∷ []) $ let_go ! $ move ! (2 ∷ []) $ peeks ! Slice _ (shows 𝓛 Slice) s (u ∷ []) (λ is.
    let word : u ≡ slice_val s.ref_ptr (length s.now) = ap only (mut_slice_Tells (named 0) κ i64 s (u ∷ []) is) in
    lands_as ! word refl (tt, (tt, (record { fits = is.0.1.0 }, tt))) $
    rewrite ! 0 (λ (us : List Val). ‵ (Slice.own_val s us)) (mut_slice_Tells (named 0) κ i64 s (u ∷ []) is) refl $
    -- [the slice; what the row ends as; the token; the windows; the locals]
    let given : Parts.Ghost = ((κs, qs, bounds, (s, (v, (w, tt))), (mut_slice_vals s, (words_of v, (words_of w, tt)))), tt) in
    use0 𝓛 (raw (fact 𝓤 (AreApart v w))) (fact_i 𝓤 _ (emp 𝓤) apart) $
    use0 𝓛 (raw (fact 𝓤 (IsWithin (length s.now) w))) (fact_i 𝓤 _ (emp 𝓤) (subst (λ (zs : List ℤ). IsWithin (length zs) w) (sym same) in_w)) $ join ! $
    use0 𝓛 (raw (fact 𝓤 (IsWithin (length s.now) v))) (fact_i 𝓤 _ (emp 𝓤) (subst (λ (zs : List ℤ). IsWithin (length zs) v) (sym same) in_v)) $ join ! $
    move ! (1 ∷ 4 ∷ []) $ join ! $ nothing ! $ move ! (4 ∷ 0 ∷ []) $ join ! $ join ! $ move ! (0 ∷ 1 ∷ []) $ join ! $ use1 𝓛 (raw (Parts.pre given)) (id⊢ 𝓤 _) $
    calls_at ! (framed 𝓤 𝓛.H 𝓜 table) Parts (parts_met.met 𝓤 𝓛 𝓜 𝓡 (code.calls-acc_raw::cells::windows 𝓡.env wired)) given (and_then ! (get ! refl) (and_then ! (get ! refl) (and_then ! (get ! refl) (no_more !)))) (λ u'.
    use1 𝓛 (later (some (λ (two : MutBor (List ℤ) × MutBor (List ℤ)). ((‵ (flft κ q) ⊛ ‵ ftrue) ⊛ ‵ (Two.own_val two (u' ∷ []))) ⊛ some (λ (ws : Lasts parts.ended κs (s, (v, (w, tt)))).
    ‵ (lasts parts.ended κs (s, (v, (w, tt))) ws) ⊛ raw (fact 𝓤 (two.0.now ≡ cells_in v s.now)) ⊛ raw (fact 𝓤 (two.1.now ≡ cells_in w s.now)) ⊛ ‵ (ends_by s.ghost_name (two.0.ghost_name, two.1.ghost_name) (with_both s.now v w)))))) (id⊢ 𝓤 _) $
    await ! tt $ pick ! (λ two. split ! $ split ! $ split ! $ move ! (3 ∷ []) $ pick ! (λ ls. split ! $ let_go ! $ split3 ! $ heard ! _ (λ is_v. heard ! _ (λ is_w.
    -- [what the slice ends as; the token; nothing; the two; what the row ends as; the locals]
    move ! (2 ∷ []) $ let_go ! $ rewrite ! 0 (λ (zs : List ℤ). ‵ (ends_by s.ghost_name (two.0.ghost_name, two.1.ghost_name) (with_both zs v w))) same refl $
    move ! (3 ∷ 0 ∷ []) $ use2 𝓛 (‵ (follows_both the_row (Array i64 0) (Array i64 0) r.ghost_name two.0.ghost_name two.1.ghost_name (with_windows r.now v w)))
    (follows_on 𝓛 the_row r.ghost_name s.ghost_name (two.0.ghost_name, two.1.ghost_name) (refill (length r.now) r.now) (with_both r.now v w)) $
    move ! (2 ∷ []) $ peeks ! Two _ (shows 𝓛 Two) two (u' ∷ []) (λ is'.
    let is_pair : u' ≡ pair_word 𝓛 (named 0) κ two.0 two.1 = pair_tells 𝓛 (named 0) κ two.0 two.1 u' is' in
    let wt_0 : WT (slice_val two.0.ref_ptr (length two.0.now)) = (tt, (record { fits = is'.1.1.0.0.1.0 }, tt)) in
    let wt_1 : WT (slice_val two.1.ref_ptr (length two.1.now)) = (tt, (record { fits = is'.1.1.1.0.0.1.0 }, tt)) in
    lands_as ! is_pair refl (tt, (wt_0, (wt_1, tt))) $ rewrite ! 0 (λ (t : Val). ‵ (Two.own_val two (t ∷ []))) is_pair refl $
    -- [the two; what the row ends as; the token]
    returns ! (look_at ! 0 refl) $ free_all ! refl $
    let known_v : two.0.now ≡ cells_in v r.now = is_v ∙ ap (cells_in v) same in let known_w : two.1.now ≡ cells_in w r.now = is_w ∙ ap (cells_in w) same in
    move ! (1 ∷ []) $ use0 𝓛 (raw (fact 𝓤 (two.1.now ≡ cells_in w r.now))) (fact_i 𝓤 _ (emp 𝓤) known_w) $ join ! $
    use0 𝓛 (raw (fact 𝓤 (two.0.now ≡ cells_in v r.now))) (fact_i 𝓤 _ (emp 𝓤) known_v) $ join ! $
    nothing ! $ move ! (3 ∷ 0 ∷ []) $ join ! $ nothing ! $ nothing ! $ fjoin ! $ nothing ! $ fjoin ! $ nothing ! $ fjoin ! $ move ! (1 ∷ 0 ∷ 3 ∷ 2 ∷ []) $
    by ! (leaves 𝓛 f.ended stayed promised entry (pair_word 𝓛 (named 0) κ two.0 two.1) two (tt, (tt, (tt, tt))) (tt, (tt, (tt, tt))))))))))))))))))))
