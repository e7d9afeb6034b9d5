-- What a body is as a call, by the JSON that it is.
use Rattle.std.proofs.Common.{◌≡◌, ℕ, Bool, true, false, List, refl, sym, ◌∙◌}
use Rattle.std.specs.Prelude.{Option, None, Some, Result, if◌then◌else◌}
use Rattle.std.specs.Str.{is_utf8}
use Rattle.std.proofs.lemmas.Str.{IsUtf8-from_is_utf8, is_utf8-from_IsUtf8}
use Rattle.serde_json.specs.Data.{Data}
use Rattle.serde_json.specs.Read.{read}
use Rattle.ck_base.specs.Told.{IsToldUnless}
use Rattle.ck_base.specs.declared.route.Route.{Route}
use Rattle.wire_calls.specs.declared.call.Call.{Call}
use Rattle.wire_calls.specs.declared.fault.BadCall.{BadCall}
use Rattle.wire_calls.specs.declared.fault.BadCall.TheVariants.{NoMemory}
use Rattle.wire_calls.specs.Calls.{IsJson, call_of}
use Rattle.talk_model.specs.Requests.{json_of}

module _ (route : Route) (caller body : List ℕ) (result : Result Call BadCall) where
  abbrev Told : Option Data → Type 0
  Told json = IsToldUnless NoMemory result (call_of route caller json)

  told_by : (b : Bool) (o : Option Data) → is_utf8 body ≡ b → read body ≡ o
      → ((d : Data) → IsJson body d → Told (Some d)) → (((d : Data) → ¬ IsJson body d) → Told None) → Told (if b then o else None)
  told_by true (Some d) text reads some none = some d (record { text = IsUtf8-from_is_utf8 body text; reads = reads })
  told_by true None text reads some none = none (λ d json. let clash : Some d ≡ None = sym json.reads ∙ reads in cc)
  told_by false o text reads some none = none (λ d json. let clash : true ≡ false = sym (is_utf8-from_IsUtf8 body json.text) ∙ text in cc)

  -- what is told of the JSON that bytes are, and of bytes that are none
  pub told_by_json : ((d : Data) → IsJson body d → Told (Some d)) → (((d : Data) → ¬ IsJson body d) → Told None) → Told (json_of body)
  told_by_json some none = told_by (is_utf8 body) (read body) refl refl some none
