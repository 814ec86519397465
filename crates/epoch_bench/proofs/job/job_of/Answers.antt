use Rattle.std.proofs.Common.{IfSome, IfNone, map, string_bytes, ◌≡◌, ◌∙◌, ap, subst, [], ◌∷◌}
use Rattle.epoch_bench.proofs.Lists.{two_words}
use Rattle.epoch_bench.specs.Words.{Asks}
use Rattle.epoch_bench.specs.declared.job.Job.{Job}
use Rattle.epoch_bench.proofs.job.job_of.Goals as goal

pub returns-in-len2-clause-taken : goal.returns-in-len2-clause-taken
returns-in-len2-clause-taken c =
    let texts = ap (map string_bytes) (two_words c.args.words.now c.word-item.result c.number-item.result c.in-len2.len_at_least c.in-len2.len_below c.word-item.is c.number-item.is) in
    let here : c.as_str.result.now ∷ c.as_str-in-len2.result.now ∷ [] ≡ string_bytes c.word-item.result ∷ string_bytes c.number-item.result ∷ [] = λ i. c.as_str.ensures.value i ∷ c.as_str-in-len2.ensures.value i ∷ [] in
    subst (λ ws. IfSome c.job_of_both.result (λ job. Asks ws job)) (here ∙ texts) c.job_of_both.ensures.taken

pub returns-in-len2-clause-refused : goal.returns-in-len2-clause-refused
returns-in-len2-clause-refused c =
    let texts = ap (map string_bytes) (two_words c.args.words.now c.word-item.result c.number-item.result c.in-len2.len_at_least c.in-len2.len_below c.word-item.is c.number-item.is) in
    let here : c.as_str.result.now ∷ c.as_str-in-len2.result.now ∷ [] ≡ string_bytes c.word-item.result ∷ string_bytes c.number-item.result ∷ [] = λ i. c.as_str.ensures.value i ∷ c.as_str-in-len2.ensures.value i ∷ [] in
    subst (λ ws. IfNone c.job_of_both.result ((job : Job) → ¬ Asks ws job)) (here ∙ texts) c.job_of_both.ensures.refused
