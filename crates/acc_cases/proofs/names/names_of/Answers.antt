use Rattle.std.proofs.Common.{sym, ap, ◌∙◌}
use Rattle.std.specs.Prelude.{bytes_eq, string_bytes}
use Rattle.std.specs.Cmp.Lexicographic.{on_texts, texts_ties}
use Rattle.std.specs.List.{list_any}
use Rattle.std.proofs.lemmas.List.Filters.{dedup_is}
use Rattle.std.proofs.lemmas.List.Kept.{IsStrictlySortedBy-dedup}
use Rattle.std.proofs.lemmas.List.Sorted.{list_any-IsPermutation}
use Rattle.acc_cases.specs.Names.{is_of}
use Rattle.acc_cases.proofs.CaseNames.{alike, any-dedup, any-map, sorted_texts}
use Rattle.acc_cases.proofs.names.names_of.Goals as goal

pub returns : goal.returns
returns c =
    let is = dedup_is _ _ _ c.dedup.ensures.filtered in
    record {
      ordered = rw is (sorted_texts _ (IsStrictlySortedBy-dedup (on_texts (λ x. x.now)) (λ x y. texts_ties x.now y.now) _ c.sort_unstable.ensures.sorted));
      all = λ name.
          any-map (bytes_eq name) (λ n. n.now) c.dedup.new.self.items
          ∙ ap (list_any (λ n. bytes_eq name n.now)) is
          ∙ any-dedup (λ n. bytes_eq name n.now) _ (alike name) c.sort_unstable.new.self.items
          ∙ sym (list_any-IsPermutation (λ n. bytes_eq name n.now) _ _ c.sort_unstable.ensures.permutation)
          ∙ c.in_ok-names.ensures name
          ∙ sym (any-map (is_of name) string_bytes c.args.files.now);
    }
