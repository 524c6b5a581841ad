-- The lines of refusals are plain lines.
use Rattle.std.proofs.Common.{◌≡◌, ℕ, ◌+◌, ◌<◌, ◌≤◌, ◌^◌, Bool, true, false, not, ◌&&◌, ◌||◌, ◌==◌, if◌then◌else◌, inl, inr, IfSome, List, [], ◌∷◌, ◌++◌, length, decimal, codes, refl, sym, ap, ◌∙◌, append_assoc, length-append, arith}
use Rattle.std.specs.Prelude.{nat_le, nat_lt}
use Rattle.std.specs.Char.{is_ascii_digit}
use Rattle.std.specs.List.{list_all}
use Rattle.std.proofs.lemmas.Bool.{and_from, and_parts, cases_Bool}
use Rattle.std.proofs.lemmas.Bool.Decides.{nat_tests}
use Rattle.std.proofs.lemmas.Fmt.{digits_decimal, length-decimal-le}
use Rattle.std.proofs.lemmas.List.Folds.{list_all-append}
use Rattle.oc_base.proofs.Numerals.{numerals}
use Rattle.oc_base.specs.Names.{IsGroupName}
use Rattle.oc_base.specs.declared.limits.TheConstants.{MIN_NAME_BYTES, MAX_NAME_BYTES}
use Rattle.oc_http.specs.PlainLine.{IsPlainLine, is_shown}
use Rattle.oc_model.specs.declared.answer.Answer.{Answer}
use Rattle.oc_model.specs.declared.answer.Answer.TheVariants as answers
use Rattle.oc_routes.specs.Lines.{IsCounted, IsTellable}
use Rattle.oc_routes.specs.PlainNames.{is_plain}
use Rattle.oc_routes.specs.Publish.{IsPublishAnswer, publish_status}
use Rattle.oc_routes.specs.Reasons.{bytes_text, condition_line, no_group_line, nowhere_line, past_line, publish_line, range_line, refused_line, seal_line, source_url}
use Rattle.oc_routes.specs.Refusals.{status_of}
use Rattle.oc_routes.specs.Seal.{IsSealAnswer, seal_status}
use Rattle.oc_routes.specs.declared.refused.Refused.{Refused}
use Rattle.oc_routes.specs.declared.refused.Refused.TheVariants.{Source, Ended, Head, HeadLong, Fields, Host, Coding, Length, BodyLong, Method, Path, Query, Denied, Mac, Message, Body, At}
use Rattle.oc_routes.proofs.PlainNames.{name_is_plain}

-- a part of a line: at most this number of bytes, and all of them shown
record IsPart (most : ℕ) (text : List ℕ) : Type 0 where
  short : length text ≤ most
  shown : list_all is_shown text ≡ true

together : (m n : ℕ) (a b : List ℕ) → IsPart m a → IsPart n b → IsPart (m + n) (a ++ b)
together m n a b first second = record {
  short = omega (arith, length-append a b, first.short, second.short);
  shown = list_all-append is_shown a b ∙ and_from _ _ first.shown second.shown;
}

digit_shown : (b : ℕ) → is_ascii_digit b ≡ true → is_shown b ≡ true
digit_shown b is = grind (arith, nat_tests)

all_shown : (p : ℕ → Bool) → ((b : ℕ) → p b ≡ true → is_shown b ≡ true) → (xs : List ℕ) → list_all p xs ≡ true → list_all is_shown xs ≡ true
all_shown p weaker [] is = refl
all_shown p weaker (x ∷ xs) is =
    let parts = and_parts (p x) (list_all p xs) is in
    and_from _ _ (weaker x parts.0) (all_shown p weaker xs parts.1)

number : (n : ℕ) → n < 2 ^ 64 → IsPart 20 (decimal n)
number n fits = record {
  short = length-decimal-le 20 n (omega arith) (omega (arith, fits)) fits;
  shown = all_shown is_ascii_digit digit_shown (decimal n) (digits_decimal numerals n fits);
}

-- Requests that are refused

denied_is : (rule : ℕ) (needs : Bool) → rule < 2 ^ 64 → IsPlainLine (refused_line (Denied rule needs))
denied_is rule true fits =
    let behind : List ℕ = codes " denies this without a token: send the field Authorization: Bearer TOKEN" in
    let part = together 12 100 (codes "access rule ") (decimal rule ++ behind) (record { short = omega arith; shown = refl }) (together 20 80 (decimal rule) behind (number rule fits) (record { short = omega arith; shown = refl })) in
    record {
      line = codes "access rule " ++ decimal rule ++ behind;
      some = omega (arith, length-append (codes "access rule ") (decimal rule ++ behind));
      most = omega (arith, part.short);
      shown = part.shown;
      ended = ap (λ (x : List ℕ). codes "access rule " ++ x) (sym (append_assoc (decimal rule) behind (10 ∷ [])));
    }
denied_is rule false fits =
    let behind : List ℕ = codes " denies this: ask who runs this node" in
    let part = together 12 100 (codes "access rule ") (decimal rule ++ behind) (record { short = omega arith; shown = refl }) (together 20 80 (decimal rule) behind (number rule fits) (record { short = omega arith; shown = refl })) in
    record {
      line = codes "access rule " ++ decimal rule ++ behind;
      some = omega (arith, length-append (codes "access rule ") (decimal rule ++ behind));
      most = omega (arith, part.short);
      shown = part.shown;
      ended = ap (λ (x : List ℕ). codes "access rule " ++ x) (sym (append_assoc (decimal rule) behind (10 ∷ [])));
    }

bytes_shown : (n : ℕ) → n < 2 ^ 64 → IsPart 26 (bytes_text n)
bytes_shown n fits = by_test (n == 1)
  where
    by_test : (one : Bool) → IsPart 26 (if one then codes "1 byte" else decimal n ++ codes " bytes")
    by_test true = record { short = omega arith; shown = refl }
    by_test false = together 20 6 (decimal n) (codes " bytes") (number n fits) (record { short = omega arith; shown = refl })

-- a text with a number of bytes, `text`, and with the number alone
twice : (front text middle behind : List ℕ) (n : ℕ) → n < 2 ^ 64 → nat_le 1 (length front) ≡ true → IsPart 100 front → IsPart 26 text → IsPart 100 middle → IsPart 100 behind
    → IsPlainLine (front ++ text ++ middle ++ decimal n ++ (behind ++ 10 ∷ []))
twice front text middle behind n fits long first bytes second third =
    let one = together 100 26 front text first bytes in
    let two = together 126 100 (front ++ text) middle one second in
    let three = together 226 20 (front ++ text ++ middle) (decimal n) two (number n fits) in
    let part = together 246 100 (front ++ text ++ middle ++ decimal n) behind three third in
    let some : 1 ≤ length front = grind (arith, nat_tests) in
    record {
      line = front ++ text ++ middle ++ decimal n ++ behind;
      some = omega (arith, some, length-append (front ++ text ++ middle ++ decimal n) behind, length-append (front ++ text ++ middle) (decimal n), length-append (front ++ text) middle, length-append front text);
      most = omega (arith, part.short);
      shown = part.shown;
      ended = sym (append_assoc (front ++ text ++ middle ++ decimal n) behind (10 ∷ []));
    }

at_is : (n : ℕ) → n < 2 ^ 64 → IsPlainLine (refused_line (At n))
at_is n fits =
    twice (codes "the group has ") (bytes_text n) (codes ": at=") (codes " appends") n fits refl
    (record { short = omega arith; shown = refl }) (bytes_shown n fits) (record { short = omega arith; shown = refl }) (record { short = omega arith; shown = refl })

-- a line of its own
alone : (line : List ℕ) → nat_le 1 (length line) ≡ true → nat_le (length line) 1000 ≡ true → list_all is_shown line ≡ true → IsPlainLine (line ++ 10 ∷ [])
alone line some few shown = record { line = line; some = grind (arith, nat_tests); most = grind (arith, nat_tests); shown = shown; ended = refl }

pub refused_is : (refused : Refused) → IsCounted refused → IfSome (status_of refused) (λ (status : ℕ). IsPlainLine (refused_line refused))
refused_is Source counted = tt
refused_is Ended counted = tt
refused_is (Denied rule needs) counted = denied_is rule needs counted
refused_is (At n) counted = at_is n counted
refused_is (Coding true) counted = alone (codes "the body has a transfer coding beside its length: give Content-Length alone") refl refl refl
refused_is (Coding false) counted = alone (codes "transfer codings are not read: give Content-Length") refl refl refl
refused_is (Length true) counted = alone (codes "the length of the body is missing: give Content-Length") refl refl refl
refused_is (Length false) counted = alone (codes "Content-Length is no number, or there are several: give one") refl refl refl
refused_is Head counted = alone (codes "this is no request of HTTP/1.1 or 1.0: send a request line and fields as RFC 9112 has them") refl refl refl
refused_is HeadLong counted = alone (codes "the head is too long: send at most 8192 bytes") refl refl refl
refused_is Fields counted = alone (codes "the head has too many fields: send at most 64") refl refl refl
refused_is Host counted = alone (codes "Host is missing, or there are several: send one") refl refl refl
refused_is BodyLong counted = alone (codes "the body is too long: publish at most 1000000 bytes at a time") refl refl refl
refused_is Method counted = alone (codes "there is no such method here: use GET, HEAD or POST") refl refl refl
refused_is Path counted = alone (codes "no group can have this path, and no page has it: look at /-/status for the names of groups") refl refl refl
refused_is Query counted = alone (codes "a number of the query is none, or too great: look at start, area, of and at") refl refl refl
refused_is Mac counted = alone (codes "the message has not the MAC of this network's key: give all nodes the same key") refl refl refl
refused_is Message counted = alone (codes "the body is no message to this node: only nodes of this network post here") refl refl refl
refused_is Body counted = alone (codes "a request to seal has no body: publish first, then seal") refl refl refl

-- Answers of steps

named : (name : List ℕ) → IsGroupName name → IsPart 200 name
named name is = record {
  short = short;
  shown = all_shown is_plain plain_shown name (name_is_plain name is);
}
  where
    plain_shown : (b : ℕ) → is_plain b ≡ true → is_shown b ≡ true
    plain_shown b plain =
        let outer = and_parts (nat_lt 32 b && nat_lt b 127 && not (b == 34)) (not (b == 92)) plain in
        let middle = and_parts (nat_lt 32 b && nat_lt b 127) (not (b == 34)) outer.0 in
        let inner = and_parts (nat_lt 32 b) (nat_lt b 127) middle.0 in
        let above : nat_lt 32 b ≡ true = inner.0 in
        let below : nat_lt b 127 ≡ true = inner.1 in
        grind (arith, nat_tests)

    short : length name ≤ 200
    short = elim (cases_Bool (nat_lt (length name) MIN_NAME_BYTES || nat_lt MAX_NAME_BYTES (length name))) [
      | inl bad ↦ let e = rw bad at is in cc e
      | inr good ↦ grind (arith, nat_tests)
    ]

-- the URL of a group at the source, where it has an address
url_shown : (source group query : List ℕ) → IsPart 10 query → IsTellable source → IsGroupName group → IsPart 519 (source_url source group query)
url_shown source group query last tellable is = by_test (length source == 0)
  where
    by_test : (none : Bool) → IsPart 519 (if none then [] else codes ", http://" ++ source ++ group ++ query)
    by_test true = record { short = omega arith; shown = refl }
    by_test false =
        let host = together 9 300 (codes ", http://") source (record { short = omega arith; shown = refl }) (record { short = tellable.most; shown = tellable.shown }) in
        let url = together 309 200 (codes ", http://" ++ source) group host (named group is) in
        together 509 10 (codes ", http://" ++ source ++ group) query url last

-- a text with this beginning and this end
at_source : (front query source group : List ℕ) → nat_le 1 (length front) ≡ true → IsPart 100 front → IsPart 10 query → IsTellable source → IsGroupName group
    → IsPlainLine (front ++ source_url source group query ++ 10 ∷ [])
at_source front query source group long first last tellable is =
    let part = together 100 519 front (source_url source group query) first (url_shown source group query last tellable is) in
    let some : 1 ≤ length front = grind (arith, nat_tests) in
    record {
      line = front ++ source_url source group query;
      some = omega (arith, some, length-append front (source_url source group query));
      most = omega (arith, part.short);
      shown = part.shown;
      ended = refl;
    }

pub publish_is : (answer : Answer) (source group : List ℕ) → IsPublishAnswer answer → (publish_status answer ≡ 200 → ⊥) → IsTellable source → IsGroupName group → IsPlainLine (publish_line answer source group)
publish_is answers.NotSource source group known refuses tellable is =
    at_source (codes "this node is not the source: publish at the source") [] source group refl (record { short = omega arith; shown = refl }) (record { short = omega arith; shown = refl }) tellable is
publish_is answers.Sealed source group known refuses tellable is = alone (codes "the group is sealed, and takes no more: publish another group") refl refl refl
publish_is answers.Groups source group known refuses tellable is = alone (codes "64 groups are held, the most: publish into a group that is held") refl refl refl
publish_is answers.TooLong source group known refuses tellable is = alone (codes "the group would be too long: at most 1099511627776 bytes fit") refl refl refl
publish_is answers.Ok source group known refuses tellable is = absurd (refuses refl)
publish_is answers.Ignored source group known refuses tellable is = absurd known
publish_is answers.Gap source group known refuses tellable is = absurd known
publish_is answers.NoGroup source group known refuses tellable is = absurd known
publish_is answers.Own source group known refuses tellable is = absurd known
publish_is answers.Fixed source group known refuses tellable is = absurd known
publish_is answers.Waiting source group known refuses tellable is = absurd known
publish_is answers.Spent source group known refuses tellable is = absurd known
publish_is (answers.Redirect node) source group known refuses tellable is = absurd known
publish_is (answers.Serve count) source group known refuses tellable is = absurd known

pub seal_is : (answer : Answer) (source group : List ℕ) → IsSealAnswer answer → (seal_status answer ≡ 200 → ⊥) → IsTellable source → IsGroupName group → IsPlainLine (seal_line answer source group)
seal_is answers.NotSource source group known refuses tellable is =
    at_source (codes "this node is not the source: seal at the source") (codes "?seal") source group refl (record { short = omega arith; shown = refl }) (record { short = omega arith; shown = refl }) tellable is
seal_is answers.NoGroup source group known refuses tellable is = alone (codes "there is no such group: publish it first") refl refl refl
seal_is answers.Ok source group known refuses tellable is = absurd (refuses refl)
seal_is answers.Ignored source group known refuses tellable is = absurd (refuses refl)
seal_is answers.Gap source group known refuses tellable is = absurd known
seal_is answers.Groups source group known refuses tellable is = absurd known
seal_is answers.TooLong source group known refuses tellable is = absurd known
seal_is answers.Own source group known refuses tellable is = absurd known
seal_is answers.Fixed source group known refuses tellable is = absurd known
seal_is answers.Waiting source group known refuses tellable is = absurd known
seal_is answers.Spent source group known refuses tellable is = absurd known
seal_is answers.Sealed source group known refuses tellable is = absurd known
seal_is (answers.Redirect node) source group known refuses tellable is = absurd known
seal_is (answers.Serve count) source group known refuses tellable is = absurd known

-- Clients

pub no_group_is : IsPlainLine no_group_line
no_group_is = alone (codes "there is no such group here: look at /-/status for the names of groups") refl refl refl

pub nowhere_is : IsPlainLine nowhere_line
nowhere_is = alone (codes "the node that has more of this group has no address: ask again later, or ask another node") refl refl refl

pub past_is : (n : ℕ) → n < 2 ^ 64 → IsPlainLine (past_line n)
past_is n fits =
    twice (codes "the group has ") (bytes_text n) (codes ", and is sealed: start=") (codes " is the last start") n fits refl
    (record { short = omega arith; shown = refl }) (bytes_shown n fits) (record { short = omega arith; shown = refl }) (record { short = omega arith; shown = refl })

pub condition_is : IsPlainLine condition_line
condition_is = alone (codes "the group is not what If-Match names: ask for it without this field") refl refl refl

pub range_is : (n : ℕ) → n < 2 ^ 64 → IsPlainLine (range_line n)
range_is n fits =
    let behind : List ℕ = codes ", and none of them is in the range: ask for one that begins before its end" in
    let front = together 20 26 (codes "the group has ") (bytes_text n) (record { short = omega arith; shown = refl }) (bytes_shown n fits) in
    let part = together 46 100 (codes "the group has " ++ bytes_text n) behind front (record { short = omega arith; shown = refl }) in
    record {
      line = codes "the group has " ++ bytes_text n ++ behind;
      some = omega (arith, length-append (codes "the group has ") (bytes_text n ++ behind));
      most = omega (arith, part.short);
      shown = part.shown;
      ended = sym (append_assoc (codes "the group has " ++ bytes_text n) behind (10 ∷ []));
    }
