mod ExamplesWords
